-- Putting bytes behind bytes, and what decimal text is. Assumes nothing.
use mathlib.Core.Path.{◌≡◌, refl, sym, ap, ◌∙◌}
use mathlib.Core.Bool.{Bool, cond}
use mathlib.Core.List.{List, [], ◌∷◌, ◌++◌, append_assoc}
use Prim.Native.Nat.{ℕ, zero, suc, ◌+◌, ◌≤◌, ◌<◌, ◌/◌, ◌%◌}
use native.Mathlib.Omega.{arith}
use native.Mathlib.Decide.{dec_lt}
use native.Mathlib.Nat.{add-zero}
use borrow.Author.Tests.{lt-ltb, le-ltb, ne_eqb}
use lib.ListN.{length, take, drop, length-append, length-drop, take-append-drop}
use lib.Seq.{take_at, drop-append-add, drop-drop, length-take-le}
use Rattle.rules.specs.Columns.{no_link}
use Rattle.words.specs.Words.{decimal_in, decimal, digit, link_text}
use Rattle.words.specs.Putting.{Room, Put}

-- ---- putting

pub put_none : (text : List ℕ) (at : ℕ) → at ≤ length text → Put text at [] text at
put_none text at l = record {
  room = record { fits = omega arith };
  text = rw (add-zero at, take-append-drop at text);
  ends = omega arith;
}

drop_past : (p q : List ℕ) (n m : ℕ) → length p ≡ n → drop (n + m) (p ++ q) ≡ drop m q
drop_past p q n m e = rw (← e) (drop-append-add p q m)

module _ {before : List ℕ} {at : ℕ} {xs after : List ℕ} {end : ℕ} (p : Put before at xs after end) where
  -- what stands up to the end now
  up_to : length (take at before ++ xs) ≡ end
  up_to = length-append (take at before) xs ∙ omega (arith, length-take-le at before (omega (arith, p.room.fits)), p.ends)

  whole : after ≡ take at before ++ xs ++ drop end before
  whole = p.text ∙ sym (append_assoc (take at before) xs (drop (at + length xs) before)) ∙ ap (λ (n : ℕ). take at before ++ xs ++ drop n before) (sym p.ends)

  pub put_length : length after ≡ length before
  put_length =
      ap length whole ∙ length-append (take at before ++ xs) (drop end before)
      ∙ omega (arith, up_to, length-drop end before, p.room.fits, p.ends)

  -- two appends in a row are one append of both
  pub put_then : {ys both : List ℕ} {last : ℕ} → Put after end ys both last → Put before at (xs ++ ys) both last
  put_then {ys} {both} {last} q = record {
    room = record { fits = omega (arith, length-append xs ys, p.ends, p.room.fits, q.room.fits, put_length) };
    text = q.text ∙ ap (λ (l : List ℕ). l ++ (ys ++ drop (end + length ys) after)) front ∙ append_assoc (take at before) xs (ys ++ drop (end + length ys) after)
        ∙ ap (λ (l : List ℕ). take at before ++ (xs ++ (ys ++ l))) behind ∙ ap (λ (l : List ℕ). take at before ++ l) (sym (append_assoc xs ys (drop (at + length (xs ++ ys)) before)));
    ends = omega (arith, length-append xs ys, p.ends, q.ends);
  }
    where
      front : take end after ≡ take at before ++ xs
      front = ap (take end) whole ∙ take_at (take at before ++ xs) (drop end before) end up_to

      behind : drop (end + length ys) after ≡ drop (at + length (xs ++ ys)) before
      behind =
          let same : end + length ys ≡ at + length (xs ++ ys) = omega (arith, length-append xs ys, p.ends) in
          ap (drop (end + length ys)) whole ∙ drop_past (take at before ++ xs) (drop end before) end (length ys) up_to
          ∙ drop-drop (length ys) end before ∙ ap (λ (n : ℕ). drop n before) same

  -- room for both is room for the second behind the first
  pub room_rest : (ys : List ℕ) → Room before at (xs ++ ys) → Room after end ys
  room_rest ys r = record { fits = omega (arith, length-append xs ys, p.ends, put_length, r.fits) }

-- and room for the first
pub room_front : {text : List ℕ} {at : ℕ} {xs : List ℕ} (ys : List ℕ) → Room text at (xs ++ ys) → Room text at xs
room_front {xs = xs} ys r = record { fits = omega (arith, length-append xs ys, r.fits) }

-- one input, one text and one end
pub put_once : {before : List ℕ} {at : ℕ} {bytes bytes' text text' : List ℕ} {end end' : ℕ} → bytes ≡ bytes' → Put before at bytes text end → Put before at bytes' text' end'
    → (text ≡ text') × (end ≡ end')
put_once {before} {at} e p q =
    (p.text ∙ (λ i. take at before ++ (e i ++ drop (at + length (e i)) before)) ∙ sym q.text, p.ends ∙ (λ i. at + length (e i)) ∙ sym q.ends)

-- ---- decimal text

-- more digits than a number has make no difference
enough : (most others n : ℕ) → n < most → n < others → decimal_in most n ≡ decimal_in others n
unfolding decimal_in
enough zero others n l k = absurd (omega arith)
enough (suc most) zero n l k = absurd (omega arith)
enough (suc most) (suc others) n l k = at (enough most others (n / 10)) (dec_lt n 10)
  where
    at : (n / 10 < most → n / 10 < others → decimal_in most (n / 10) ≡ decimal_in others (n / 10)) → Dec (n < 10)
        → decimal_in (suc most) n ≡ decimal_in (suc others) n
    at tenth (yes s) = rw (lt-ltb n 10 s) refl
    at tenth (no s) =
        let low : 10 ≤ n = omega arith in
        rw (le-ltb n 10 low) (ap (λ (front : List ℕ). front ++ (digit (n % 10) ∷ [])) (tenth (omega arith) (omega arith)))

-- a number below ten is one digit
pub one_digit : (n : ℕ) → n < 10 → decimal n ≡ digit n ∷ []
unfolding decimal decimal_in
one_digit n l = rw (lt-ltb n 10 l) refl

-- another number's last digit stands behind the digits of a tenth of it
pub more_digits : (n : ℕ) → 10 ≤ n → decimal n ≡ decimal (n / 10) ++ (digit (n % 10) ∷ [])
unfolding decimal decimal_in
more_digits n l =
    ap (λ (b : Bool). cond b (digit n ∷ []) (decimal_in n (n / 10) ++ (digit (n % 10) ∷ []))) (le-ltb n 10 l)
    ∙ ap (λ (front : List ℕ). front ++ (digit (n % 10) ∷ [])) (enough n (suc (n / 10)) (n / 10) (omega arith) (omega arith))

pub link_some : {link : ℕ} → (link ≡ no_link → ⊥) → link_text link ≡ decimal link
link_some {link} e = rw (ne_eqb link no_link e) refl
