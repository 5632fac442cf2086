-- Lines, computed: what the scope prints for the pier network, and numbers at the ends of their ranges. Assumes nothing.
use mathlib.Core.Path.{◌≡◌, refl, ap, ◌∙◌}
use mathlib.Core.List.{List, [], ◌∷◌, ◌++◌}
use Prim.Native.Nat.{ℕ, ◌≤◌, ◌/◌, ◌%◌}
use native.Mathlib.Omega.{arith}
use Rattle.state.specs.declared.Out.TheVariants.{Nothing, Row, Changed, Refused}
use Rattle.words.specs.Words.{decimal, decimal_in, digit, link_text}
use Rattle.lines.specs.Lines.{line_of}
use Rattle.words.proofs.Laws.{one_digit, more_digits}

-- a digit more
then : (n : ℕ) {front : List ℕ} → 10 ≤ n → decimal (n / 10) ≡ front → decimal n ≡ front ++ (digit (n % 10) ∷ [])
then n l e = more_digits n l ∙ ap (λ (text : List ℕ). text ++ (digit (n % 10) ∷ [])) e

-- `0`, `7`, `10`
pub small : (decimal 0 ≡ 48 ∷ []) × (decimal 7 ≡ 55 ∷ []) × (decimal 10 ≡ 49 ∷ 48 ∷ [])
unfolding decimal decimal_in
small = (refl, refl, refl)

-- `65535`
pub no_such_link : decimal 65535 ≡ 54 ∷ 53 ∷ 53 ∷ 51 ∷ 53 ∷ []
no_such_link =
    then 65535 (omega arith) (then 6553 (omega arith) (then 655 (omega arith) (then 65 (omega arith) (one_digit 6 (omega arith)))))

-- `16777215`
pub unreached : decimal 16777215 ≡ 49 ∷ 54 ∷ 55 ∷ 55 ∷ 55 ∷ 50 ∷ 49 ∷ 53 ∷ []
unreached =
    then 16777215 (omega arith)
    (then 1677721 (omega arith)
    (then 167772 (omega arith)
    (then 16777 (omega arith)
    (then 1677 (omega arith) (then 167 (omega arith) (then 16 (omega arith) (one_digit 1 (omega arith))))))))

-- `-` where there is no link, and `0` for link 0
pub links : (link_text 65535 ≡ 45 ∷ []) × (link_text 0 ≡ 48 ∷ [])
unfolding decimal decimal_in
links = (refl, refl)

-- `N 2 6 3 0`
pub row : line_of (Row 2 6 3 0) [] 0 0 ≡ 78 ∷ 32 ∷ 50 ∷ 32 ∷ 54 ∷ 32 ∷ 51 ∷ 32 ∷ 48 ∷ 10 ∷ []
unfolding decimal decimal_in
row = refl

-- `N 0 0 - -`, the root's row
pub root_row_lem : line_of (Row 0 0 65535 65535) [] 0 0 ≡ 78 ∷ 32 ∷ 48 ∷ 32 ∷ 48 ∷ 32 ∷ 45 ∷ 32 ∷ 45 ∷ 10 ∷ []
unfolding decimal decimal_in
root_row_lem = refl

-- `A 3 1 2 3`, and no word of the list's other entries
pub changed : line_of (Changed 3) (1 ∷ 2 ∷ 3 ∷ 9 ∷ []) 0 0 ≡ 65 ∷ 32 ∷ 51 ∷ 32 ∷ 49 ∷ 32 ∷ 50 ∷ 32 ∷ 51 ∷ 10 ∷ []
unfolding decimal decimal_in
changed = refl

-- `R 21 84`
pub refusal : line_of (Refused 21) [] 84 0 ≡ 82 ∷ 32 ∷ 50 ∷ 49 ∷ 32 ∷ 56 ∷ 52 ∷ 10 ∷ []
unfolding decimal decimal_in
refusal = refl

-- `R 9 66 61`, the earlier record's place behind that of the refused one
pub again : line_of (Refused 9) [] 66 61 ≡ 82 ∷ 32 ∷ 57 ∷ 32 ∷ 54 ∷ 54 ∷ 32 ∷ 54 ∷ 49 ∷ 10 ∷ []
unfolding decimal decimal_in
again = refl

pub nothing : line_of Nothing [] 0 0 ≡ []
nothing = refl
