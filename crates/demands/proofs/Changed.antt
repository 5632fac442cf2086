-- The list of changed nodes names exactly those whose row differs, in rising order. Assumes nothing.
use mathlib.Core.Path.{◌≡◌, refl, sym, ◌∙◌}
use mathlib.Core.Bool.{Bool, true, false, cond}
use mathlib.Core.List.{List, [], ◌∷◌, ◌++◌, append-nil}
use Prim.Native.Nat.{ℕ, zero, suc, ◌+◌, ◌≤◌, ◌<◌}
use native.Mathlib.Omega.{arith}
use native.Mathlib.Nat.{not-suc-le-zero}
use native.Mathlib.Decide.{dec_lt, ℕ_discrete}
use lib.ListN.{length, get_or, length-append, get_or-append}
use lib.Seq.{get_or-append_seam}
use borrow.Author.Tests.{eq-eqb}
use Rattle.rules.specs.Net.{Net, Legal}
use Rattle.rules.specs.Fit.{Rows, Bare, Row, root, hung, bare, Fits}
use Rattle.rules.specs.Columns.{Table, Arrays, Whole, rows_of}
use Rattle.rules.specs.Refusals.{accepted}
use Rattle.rules.specs.Jobs.{differs, changed_below, Updated}
use Rattle.rules.specs.Demands.{Names}
use Rattle.rules.specs.declared.Change.{Change}
use Rattle.rules.proofs.Logic.{true_false}
use Rattle.rules.proofs.Judged.{legal, tree_accepted}
use Rattle.rules.proofs.OneOutcome.{update_links}
use Rattle.rules.proofs.Accepted.{update_accept, update_good}

-- what the first n nodes give the list
record NamesBelow (old new : Rows) (n : ℕ) (changed : List ℕ) : Type 0 where
  named : (v : ℕ) → v < n → differs old new v ≡ true → (i : ℕ) × (i < length changed) × (get_or changed i 0 ≡ v)
  only : (i : ℕ) → i < length changed → (get_or changed i 0 < n) × (differs old new (get_or changed i 0) ≡ true)
  rising : (i j : ℕ) → i < j → j < length changed → get_or changed i 0 < get_or changed j 0

module _ (old new : Rows) where
  one_more : {n : ℕ} {changed : List ℕ} (b : Bool) → differs old new n ≡ b → NamesBelow old new n changed
      → NamesBelow old new (suc n) (changed ++ cond b (n ∷ []) [])
  one_more {n} {changed} true e h = record { named = λ v l d. name v l d (ℕ_discrete v n); only = λ i l. own i l (dec_lt i (length changed)); rising = λ i j l m. up i j l m (dec_lt j (length changed)) }
    where
      long : length (changed ++ (n ∷ [])) ≡ length changed + 1
      long = length-append changed (n ∷ [])

      last : (i : ℕ) → i ≡ length changed → get_or (changed ++ (n ∷ [])) i 0 ≡ n
      last i q = rw q (get_or-append_seam changed n [] 0)

      name : (v : ℕ) → v < suc n → differs old new v ≡ true → Dec (v ≡ n) → (i : ℕ) × (i < length (changed ++ (n ∷ []))) × (get_or (changed ++ (n ∷ [])) i 0 ≡ v)
      name v l d (yes q) = (length changed, omega (arith, long), last (length changed) refl ∙ sym q)
      name v l d (no q) =
          let before = h.named v (omega arith) d in
          (before.0, omega (arith, long, before.1), get_or-append changed (n ∷ []) 0 before.0 before.1 ∙ before.2)

      own : (i : ℕ) → i < length (changed ++ (n ∷ [])) → Dec (i < length changed) → (get_or (changed ++ (n ∷ [])) i 0 < suc n) × (differs old new (get_or (changed ++ (n ∷ [])) i 0) ≡ true)
      own i l (yes q) =
          let before = h.only i q in
          rw (get_or-append changed (n ∷ []) 0 i q) (omega (arith, before.0), before.1)
      own i l (no q) = rw (last i (omega (arith, long))) (omega arith, e)

      up : (i j : ℕ) → i < j → j < length (changed ++ (n ∷ [])) → Dec (j < length changed) → get_or (changed ++ (n ∷ [])) i 0 < get_or (changed ++ (n ∷ [])) j 0
      up i j l m (yes q) =
          rw (get_or-append changed (n ∷ []) 0 i (omega arith), get_or-append changed (n ∷ []) 0 j q) (h.rising i j l q)
      up i j l m (no q) =
          let before = h.only i (omega (arith, long)) in
          rw (get_or-append changed (n ∷ []) 0 i (omega (arith, long)), last j (omega (arith, long))) before.0
  one_more {n} {changed} false e h =
      rw (append-nil changed) (record { named = λ v l d. name v l d (ℕ_discrete v n); only = λ i l. let before = h.only i l in (omega (arith, before.0), before.1); rising = h.rising })
    where
      name : (v : ℕ) → v < suc n → differs old new v ≡ true → Dec (v ≡ n) → (i : ℕ) × (i < length changed) × (get_or changed i 0 ≡ v)
      name v l d (yes q) = absurd (true_false (sym d ∙ rw q e))
      name v l d (no q) = h.named v (omega arith) d

  names_below : (n : ℕ) → NamesBelow old new n (changed_below old new n)
  unfolding changed_below
  names_below zero = record { named = λ v l d. absurd (not-suc-le-zero l); only = λ i l. absurd (not-suc-le-zero l); rising = λ i j l m. absurd (not-suc-le-zero m) }
  names_below (suc n) = one_more (differs old new n) refl (names_below n)

-- rows past the last node are bare in every tree that fits, and so don't differ
module _ {N M : Net} (L : Legal N) (K : Legal M) {r s : Rows} (R : Fits N r) (S : Fits M s) (n : N.nodes ≡ M.nodes) (m : N.mark ≡ M.mark) (o : N.none ≡ M.none) where
  bare_past : {Z : Net} {z : Rows} {v : ℕ} → Legal Z → Z.nodes ≤ v → Row Z z v → Bare Z z v
  bare_past J l (root h) = absurd (omega (arith, h.is_root, J.root_is_node))
  bare_past J l (hung h) = absurd (omega (arith, h.is_node))
  bare_past J l (bare h) = h

  pub same_past : (v : ℕ) → N.nodes ≤ v → differs r s v ≡ false
  unfolding differs
  same_past v l =
      let a = bare_past L l (R.row v) in
      let b = bare_past K (omega arith) (S.row v) in
      rw (eq-eqb (r.dist v) (s.dist v) (cc), eq-eqb (r.parent v) (s.parent v) (cc), eq-eqb (r.first v) (s.first v) (cc)) refl

pub changed_named : {t : Table} {old new : Arrays} {batch : List Change} {list costs listed : List ℕ} {count : ℕ} → Whole old
    → Updated t old batch list accepted new costs listed count → Names (rows_of old) (rows_of new) (changed_below (rows_of old) (rows_of new) t.nodes)
changed_named {t} {old} {new} {batch} {list} w u =
    let a = update_accept u refl in
    let before = tree_accepted t old w (update_links t old batch list a.judged) in
    let below = names_below (rows_of old) (rows_of new) t.nodes in
    record {
      named = λ v d. at v d (dec_lt v t.nodes) (same_past (legal before.0) (legal (update_good a).table) before.1 a.next.fits refl refl refl v);
      only = λ i l. (below.only i l).1;
      rising = below.rising;
    }
  where
    at : (v : ℕ) → differs (rows_of old) (rows_of new) v ≡ true → Dec (v < t.nodes) → (t.nodes ≤ v → differs (rows_of old) (rows_of new) v ≡ false)
        → (i : ℕ) × (i < length (changed_below (rows_of old) (rows_of new) t.nodes)) × (get_or (changed_below (rows_of old) (rows_of new) t.nodes) i 0 ≡ v)
    at v d (yes l) past = (names_below (rows_of old) (rows_of new) t.nodes).named v l d
    at v d (no l) past = absurd (true_false (sym d ∙ past (omega arith)))
