-- The search for a link from one node to another, over the links that leave the one. Assumes nothing.
use mathlib.Core.Path.{◌≡◌, refl, sym}
use mathlib.Core.Logic.{◌≢◌}
use mathlib.Core.Bool.{Bool, true, false, ◌||◌, and-false, or-true}
use Prim.Native.Nat.{ℕ, zero, suc, ◌+◌, ◌≤◌, ◌<◌}
use native.Mathlib.Omega.{arith}
use native.Mathlib.Decide.{ℕ_discrete, dec_lt}
use lib.Dec.{ltb}
use lib.ListN.{length, get_or}
use borrow.Author.Count.{below_more}
use borrow.Author.Tests.{eq-eqb, ne_eqb}
use Rattle.rules.specs.Tests.{some}
use Rattle.rules.specs.Columns.{Table, Proper, leads, some_leads}
use Rattle.basics.proofs.Arrays.{rise}
use Rattle.heads.specs.Heads.{HeadIn}

-- ---- some number below n

pub some_none : (p : ℕ → Bool) (n : ℕ) → ((j : ℕ) → j < n → p j ≡ false) → some p n ≡ false
unfolding some
some_none p zero none = refl
some_none p (suc n) none = rw (none n (omega arith), some_none p n (λ j l. none j (omega arith)))

pub some_one : (p : ℕ → Bool) (n j : ℕ) → j < n → p j ≡ true → some p n ≡ true
unfolding some
some_one p zero j l e = absurd (omega arith)
some_one p (suc n) j l e = at (ℕ_discrete j n) (λ b. some_one p n j b e)
  where
    at : Dec (j ≡ n) → (j < n → some p n ≡ true) → (p n || some p n) ≡ true
    at (yes same) before = rw (← same, e)
    at (no d) before = rw (before (omega arith), or-true)

-- ---- one link after another

-- none of the first k links leads there, and the links that leave `from` begin no later
pub record Passed (t : Table) (from to head k : ℕ) : Type 0 where
  pub begins : head ≤ k
  pub within : k ≤ length t.starts
  pub none : (j : ℕ) → j < k → leads t from to j ≡ false

module _ (t : Table) (from to : ℕ) where
  pub leaves_not : (j : ℕ) → get_or t.starts j 0 ≢ from → leads t from to j ≡ false
  leaves_not j n = rw (ne_eqb (get_or t.starts j 0) from n)

  pub ends_not : (j : ℕ) → get_or t.ends j 0 ≢ to → leads t from to j ≡ false
  ends_not j n = rw (ne_eqb (get_or t.ends j 0) to n, and-false)

  pub down : (j : ℕ) → ltb 0 (get_or t.costs j 0) ≡ false → leads t from to j ≡ false
  down j e = rw (e, and-false)

  pub leads_there : (j : ℕ) → get_or t.starts j 0 ≡ from → get_or t.ends j 0 ≡ to → ltb 0 (get_or t.costs j 0) ≡ true → leads t from to j ≡ true
  leads_there j a b c = rw (eq-eqb (get_or t.starts j 0) from a, eq-eqb (get_or t.ends j 0) to b, c)

module _ {t : Table} {from to head : ℕ} (f : HeadIn t.starts from head) where
  pub passed_none : Passed t from to head head
  passed_none = record { begins = omega arith; within = f.within; none = λ j l. leaves_not t from to j (f.before j l) }

  module _ {k : ℕ} (h : Passed t from to head k) where
    pub passed_more : k < length t.starts → leads t from to k ≡ false → Passed t from to head (k + 1)
    passed_more l e = record {
      begins = omega (arith, h.begins);
      within = omega arith;
      none = below_more (λ (j : ℕ). leads t from to j ≡ false) k h.none e;
    }

    pub passed_all : length t.starts ≤ k → false ≡ some_leads t from to
    unfolding some_leads
    passed_all l = sym (some_none (leads t from to) (length t.starts) (λ j b. h.none j (omega arith)))

    pub passed_part : Proper t → k < length t.starts → get_or t.starts k 0 ≢ from → false ≡ some_leads t from to
    unfolding some_leads
    passed_part p l n = sym (some_none (leads t from to) (length t.starts) (λ j b. at j b (ℕ_discrete head k)))
      where
        at : (j : ℕ) → j < length t.starts → Dec (head ≡ k) → leads t from to j ≡ false
        at j b (yes e) = absurd (n (rw e at (f.leaves (omega arith))))
        at j b (no d) = before j b (dec_lt j k)
          where
            before : (j : ℕ) → j < length t.starts → Dec (j < k) → leads t from to j ≡ false
            before j b (yes a) = h.none j a
            before j b (no a) =
                let rises = rise (λ i. get_or t.starts i 0) (length t.starts) p.order in
                let up = rises head k h.begins l in
                let on = rises k j (omega arith) b in
                leaves_not t from to j
                (λ e. n (omega (arith, f.leaves (omega (arith, h.begins)), up, on)))

module _ (t : Table) (from to : ℕ) where
  pub found : {k : ℕ} → k < length t.starts → leads t from to k ≡ true → true ≡ some_leads t from to
  unfolding some_leads
  found {k} l e = sym (some_one (leads t from to) (length t.starts) k l e)
