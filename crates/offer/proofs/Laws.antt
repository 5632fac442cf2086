-- What is read of a node's distance, and that distances and queue still agree where it falls. Assumes nothing.
use mathlib.Core.Path.{◌≡◌, refl, ◌∙◌}
use mathlib.Core.Logic.{◌≢◌}
use mathlib.Core.List.{List}
use Prim.Native.Nat.{ℕ, ◌^◌, ◌≤◌, ◌<◌}
use native.Mathlib.Omega.{arith}
use native.Mathlib.Decide.{dec_lt, ℕ_discrete}
use lib.ListN.{length, get_or, set, length-set, get_or-eq_default}
use lib.Seq.{get_or-set_same, get_or-set_other}
use Rattle.rules.specs.Columns.{most_nodes}
use Rattle.queue.specs.Queue.{empty, key_of}
use Rattle.rules.proofs.Logic.{get_d_any}
use Rattle.offer.specs.Offer.{key_at, Keyed, idle, waits, Lined}

-- a node that waits has a key
pub waits_now : {mark distance key v : ℕ} → mark < 2 ^ 32 → v < most_nodes → distance < mark → key ≡ key_of distance v → key ≢ empty
waits_now fits is_node near e none = omega arith

-- only a node is reached
pub inside : {mark : ℕ} {dist keys : List ℕ} → Lined mark dist keys → (v : ℕ) → get_or dist v mark < mark → v < most_nodes
inside {mark} {dist} h v near = at (dec_lt v (length dist))
  where
    at : Dec (v < length dist) → v < most_nodes
    at (yes l) = omega (arith, h.long)
    at (no l) = let far : get_or dist v mark ≡ mark = get_or-eq_default dist mark (omega arith) in absurd (omega arith)

module _ {mark : ℕ} {dist keys : List ℕ} (h : Lined mark dist keys) {v : ℕ} (is_node : v < most_nodes) where
  -- what the code reads is the node's distance
  pub entry : get_or dist v 0 ≡ get_or dist v mark
  entry = get_d_any dist v 0 mark (omega (arith, h.long))

  pub entry_fits : get_or dist v 0 < 2 ^ 32
  entry_fits = omega (arith, entry, h.most v, h.mark_fits)

  -- a sum that is less
  module _ {sum : ℕ} (less : sum < get_or dist v 0) where
    pub below_mark : sum < mark
    below_mark = omega (arith, entry, h.most v)

    -- the key is at most the node's own
    pub key_falls : key_of sum v ≤ get_or keys v 0
    key_falls = at (h.keyed v) (get_d_any keys v 0 empty (omega (arith, h.keys_long)))
      where
        at : Keyed mark (get_or dist v mark) (key_at keys v) v → get_or keys v 0 ≡ key_at keys v → key_of sum v ≤ get_or keys v 0
        at (idle e) f = omega (arith, below_mark, h.mark_fits)
        at (waits near e) f = omega (arith, entry)

    pub lined_taken : Lined mark (set dist v sum) (set keys v (key_of sum v))
    lined_taken =
        record {
          mark_fits = h.mark_fits;
          long = length-set dist v sum ∙ h.long;
          keys_long = length-set keys v (key_of sum v) ∙ h.keys_long;
          most = λ u. most u (ℕ_discrete u v);
          keyed = λ u. keyed u (ℕ_discrete u v);
        }
      where
        here : get_or (set dist v sum) v mark ≡ sum
        here = get_or-set_same dist v sum mark (omega (arith, h.long))

        key_here : key_at (set keys v (key_of sum v)) v ≡ key_of sum v
        key_here = get_or-set_same keys v (key_of sum v) empty (omega (arith, h.keys_long))

        most : (u : ℕ) → Dec (u ≡ v) → get_or (set dist v sum) u mark ≤ mark
        most u (yes e) = rw e (omega (arith, here, below_mark))
        most u (no n) = rw (get_or-set_other dist v u sum mark n) (h.most u)

        keyed : (u : ℕ) → Dec (u ≡ v) → Keyed mark (get_or (set dist v sum) u mark) (key_at (set keys v (key_of sum v)) u) u
        keyed u (yes e) = rw (e, here, key_here) (waits below_mark refl)
        keyed u (no n) = rw (get_or-set_other dist v u sum mark n, get_or-set_other keys v u (key_of sum v) empty n) (h.keyed u)
