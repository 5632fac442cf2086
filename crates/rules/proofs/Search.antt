-- A search that goes over places one by one, and the refusal that its find gives. Assumes nothing.
use mathlib.Core.Path.{◌≡◌}
use mathlib.Core.Bool.{Bool, true, false}
use Prim.Native.Nat.{ℕ, ◌+◌, ◌≤◌, ◌<◌}
use native.Mathlib.Omega.{arith}
use borrow.Author.Count.{below_none, below_more}
use borrow.Author.Tests.{lt-ltb, le-ltb}
use Rattle.rules.specs.Tests.{first_below}
use Rattle.rules.specs.Refusals.{only, accepted, refused, when_one}
use Rattle.rules.proofs.Logic.{first_is}

-- of n places the first i have been seen, and f is the first of those that passes, or n where none does
pub record Seen (p : ℕ → Bool) (n i f : ℕ) : Type 0 where
  pub within : f ≤ n
  pub before : (j : ℕ) → j < i → j < f → p j ≡ false
  pub found : f < n → f < i
  pub passes : f < n → p f ≡ true

pub seen_none : (p : ℕ → Bool) (n : ℕ) → Seen p n 0 n
seen_none p n =
    record {
      within = omega arith;
      before = below_none (λ j. j < n → p j ≡ false);
      found = λ l. absurd (omega arith);
      passes = λ l. absurd (omega arith);
    }

-- one place more, which doesn't pass or stands behind one that does
pub seen_more : {p : ℕ → Bool} {n i f : ℕ} → Seen p n i f → (i < f → p i ≡ false) → Seen p n (i + 1) f
seen_more {p} {n} {i} {f} s here =
    record {
      within = s.within;
      before = below_more (λ j. j < f → p j ≡ false) i s.before here;
      found = λ l. omega (arith, s.found l);
      passes = s.passes;
    }

-- one place more, which is the first that passes
pub seen_here : {p : ℕ → Bool} {n i : ℕ} → Seen p n i n → i < n → p i ≡ true → Seen p n (i + 1) i
seen_here {p} {n} {i} s l here =
    record { within = omega arith; before = λ j m k. s.before j k (omega arith); found = λ k. omega arith; passes = λ k. here }

module _ {p : ℕ → Bool} {n i f : ℕ} (s : Seen p n i f) where
  first_seen : f ≤ i → first_below p n ≡ f
  first_seen l = first_is (record { within = s.within; before = λ j m. s.before j (omega arith) m; passes = s.passes })

  pub one_seen : (number : ℕ) → f < n → when_one n p number ≡ refused number (only f)
  one_seen number l = rw (first_seen (omega (arith, s.found l)), lt-ltb f n l)

  pub none_seen : (number : ℕ) → n ≤ i → n ≤ f → when_one n p number ≡ accepted
  none_seen number l m = rw (first_seen (omega arith), le-ltb f n m)
