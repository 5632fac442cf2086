-- A number and a link as text, as the scope says it: numbers in decimal, `-` for no link. A text is the list of its bytes.
-- Assumes nothing.
use Rattle.std.specs.Prelude.{cond, ℕ, zero, suc, ◌+◌, ◌/◌, ◌%◌, List, [], ◌∷◌, ◌++◌, ltb, eqb}
use Rattle.rules.specs.Columns.{no_link}

-- ASCII's digit, and the other bytes of a word
abbrev pub digit : ℕ → ℕ
digit d = 48 + d

abbrev pub space : ℕ
space = 32

abbrev pub dash : ℕ
dash = 45

-- the digits of a number, of which there are at most so many: the last stands behind those of a tenth of the number
unfoldable pub decimal_in : ℕ → ℕ → List ℕ
decimal_in zero n = []
decimal_in (suc most) n = cond (ltb n 10) (digit n ∷ []) (decimal_in most (n / 10) ++ (digit (n % 10) ∷ []))

-- a number in decimal: no number n has more than n + 1 digits
unfoldable pub decimal : ℕ → List ℕ
decimal n = decimal_in (suc n) n

-- a link's number, or `-` for no link
abbrev pub link_text : ℕ → List ℕ
link_text link = cond (eqb link no_link) (dash ∷ []) (decimal link)
