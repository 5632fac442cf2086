-- What a record tells, as a line of text, as the scope says it: one space between words. Assumes nothing.
use Rattle.std.specs.Prelude.{ℕ, cond, List, [], ◌∷◌, ◌++◌, map, eqb, length, take}
use Rattle.words.specs.Words.{space, decimal, link_text}
use Rattle.state.specs.declared.Out.{Out}
use Rattle.state.specs.declared.Out.TheVariants.{Nothing, Row, Changed, Refused}

-- ASCII's bytes of a line
abbrev pub newline : ℕ
newline = 10

abbrev pub letter_a : ℕ
letter_a = 65

abbrev pub letter_n : ℕ
letter_n = 78

abbrev pub letter_r : ℕ
letter_r = 82

-- words, each after one space, to the end of the line
abbrev pub ending : List (List ℕ) → List ℕ
ending [] = newline ∷ []
ending (word ∷ words) = space ∷ (word ++ ending words)

abbrev pub row_line : ℕ → ℕ → ℕ → ℕ → List ℕ
row_line node dist parent first =
    letter_n ∷ ending (decimal node ∷ decimal dist ∷ link_text parent ∷ link_text first ∷ [])

abbrev pub nodes_line : List ℕ → List ℕ
nodes_line nodes = letter_a ∷ ending (decimal (length nodes) ∷ map decimal nodes)

-- the changed nodes are the list's first entries
abbrev pub changed_line : ℕ → List ℕ → List ℕ
changed_line count list = letter_a ∷ ending (decimal count ∷ map decimal (take count list))

abbrev pub refusal_line : ℕ → ℕ → List ℕ
refusal_line number place = letter_r ∷ ending (decimal number ∷ decimal place ∷ [])

-- refusal 9 tells the place of the earlier record too
abbrev pub again_line : ℕ → ℕ → List ℕ
again_line place earlier = letter_r ∷ ending (decimal 9 ∷ decimal place ∷ decimal earlier ∷ [])

-- the whole line of what a record tells, given the list of changed nodes, the place of its kind byte, and that of the
-- earlier record with the same link
abbrev pub line_of : Out → List ℕ → ℕ → ℕ → List ℕ
line_of Nothing list place earlier = []
line_of (Row node dist parent first) list place earlier = row_line node dist parent first
line_of (Changed count) list place earlier = changed_line count list
line_of (Refused number) list place earlier = cond (eqb number 9) (again_line place earlier) (refusal_line number place)

-- how many entries of the list a line tells
abbrev pub entries_in : Out → ℕ
entries_in Nothing = 0
entries_in (Row node dist parent first) = 0
entries_in (Changed count) = count
entries_in (Refused number) = 0

-- room for every line
abbrev pub line_room : ℕ
line_room = 2048
