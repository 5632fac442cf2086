-- Decimal text says its number, and no other number's text is the same. Assumes nothing.
use mathlib.Core.Path.{◌≡◌, refl, sym, ap, ◌∙◌}
use mathlib.Core.List.{List, [], ◌∷◌, ◌++◌}
use Prim.Native.Nat.{ℕ, zero, suc, ◌+◌, ◌*◌, ◌-◌, ◌<◌, ◌≤◌, ◌/◌, ◌%◌}
use native.Mathlib.Omega.{arith}
use native.Mathlib.Decide.{dec_lt}
use Rattle.words.specs.Words.{decimal, digit}
use Rattle.words.proofs.Laws.{one_digit, more_digits}

-- the number that a text of digits says, behind digits that say another
abbrev pub said : ℕ → List ℕ → ℕ
said before [] = before
said before (byte ∷ text) = said (before * 10 + (byte - 48)) text

said_last : (before : ℕ) (text : List ℕ) (byte : ℕ) → said before (text ++ (byte ∷ [])) ≡ said before text * 10 + (byte - 48)
said_last before [] byte = refl
said_last before (first ∷ text) byte = said_last (before * 10 + (first - 48)) text byte

said_below : (most n : ℕ) → n < most → said 0 (decimal n) ≡ n
said_below zero n l = absurd (omega arith)
said_below (suc most) n l = at (said_below most (n / 10)) (dec_lt n 10)
  where
    at : (n / 10 < most → said 0 (decimal (n / 10)) ≡ n / 10) → Dec (n < 10) → said 0 (decimal n) ≡ n
    at tenth (yes s) = ap (said 0) (one_digit n s) ∙ omega arith
    at tenth (no s) =
        let low : 10 ≤ n = omega arith in
        ap (said 0) (more_digits n low) ∙ said_last 0 (decimal (n / 10)) (digit (n % 10)) ∙ omega (arith, tenth (omega arith))

pub says_its_number : (n : ℕ) → said 0 (decimal n) ≡ n
says_its_number n = said_below (suc n) n (omega arith)

pub one_number : {m n : ℕ} → decimal m ≡ decimal n → m ≡ n
one_number {m} {n} e = sym (says_its_number m) ∙ ap (said 0) e ∙ says_its_number n
