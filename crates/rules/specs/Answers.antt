-- What each of the code's answers means: 01's number, and the values that it carries. Assumes nothing.
use Rattle.std.specs.Prelude.{ℕ, Result, Ok, Err}
use Rattle.rules.specs.Refusals.{Verdict, accepted, refused, only, both}
use Rattle.rules.specs.declared.Refusal.{Refusal}
use Rattle.rules.specs.declared.Refusal.TheVariants.{WrongNodeCount, WrongRoot, WrongColumns, WrongEnds, WrongOrder, TreeUnfit, TooManyRows, RowNamesNoLink, RowNamesLinkAgain, AskedNoNode, AskedUnreached, ListTooShort}

-- a refusal's number and values, and what a job answers: nothing, or its refusal
abbrev pub refusal : Refusal → Verdict
refusal WrongNodeCount = refused 1 (only 0)
refusal WrongRoot = refused 2 (only 0)
refusal WrongColumns = refused 3 (only 0)
refusal (WrongEnds link) = refused 4 (only link)
refusal (WrongOrder link) = refused 5 (only link)
refusal (TreeUnfit node) = refused 6 (only node)
refusal TooManyRows = refused 7 (only 0)
refusal (RowNamesNoLink row) = refused 8 (only row)
refusal (RowNamesLinkAgain row earlier) = refused 9 (both row earlier)
refusal AskedNoNode = refused 10 (only 0)
refusal AskedUnreached = refused 11 (only 0)
refusal ListTooShort = refused 12 (only 0)

abbrev pub Answer : Type 0
Answer = Result Unit Refusal

abbrev pub told : {A : Type 0} → Result A Refusal → Verdict
told (Ok a) = accepted
told (Err r) = refusal r

-- a count that stands with an acceptance, and 0 with a refusal
abbrev pub count_in : Result ℕ Refusal → ℕ
count_in (Ok count) = count
count_in (Err r) = 0

-- the number, 0 for acceptance, and the two values, 0 where there is none
abbrev pub number_in : Verdict → ℕ
number_in accepted = 0
number_in (refused number values) = number

abbrev pub value_in : Verdict → ℕ
value_in accepted = 0
value_in (refused number values) = values.value

abbrev pub second_in : Verdict → ℕ
second_in accepted = 0
second_in (refused number values) = values.second

abbrev pub number_of : {A : Type 0} → Result A Refusal → ℕ
number_of answer = number_in (told answer)

abbrev pub value_of : {A : Type 0} → Result A Refusal → ℕ
value_of answer = value_in (told answer)

abbrev pub second_of : {A : Type 0} → Result A Refusal → ℕ
second_of answer = second_in (told answer)
