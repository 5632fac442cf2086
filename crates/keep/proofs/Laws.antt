-- The pass that keeps old parents. Assumes nothing.
use mathlib.Core.Path.{◌≡◌}
use mathlib.Core.Bool.{Bool, true, false}
use mathlib.Core.List.{List}
use Prim.Native.Nat.{ℕ, ◌≤◌, ◌<◌}
use native.Mathlib.Omega.{arith}
use lib.ListN.{length, get_or}
use Rattle.rules.specs.Net.{Net, Usable}
use Rattle.rules.specs.Columns.{Table, Proper, net_in, most_nodes, no_link}
use Rattle.rules.specs.declared.Profile.{Profile}
use Rattle.usable.proofs.Reading.{read_row, start_has_row}
use Rattle.basics.specs.Tells.{Tells}
use Rattle.basics.proofs.Answers.{tells_same, tells_no}
use Rattle.keep.specs.Kept.{Exact, Holds, Kept}

-- ---- whether a link holds a node

module _ (p : Profile) {t : Table} (proper : Proper t) (dist : List ℕ) (long : length dist ≡ most_nodes) {v k : ℕ} (is_node : v < most_nodes)
    (is_link : k < length t.starts) where
  from_read : get_or dist (get_or t.starts k 0) 0 ≡ get_or dist (get_or t.starts k 0) p.mark
  from_read = read_row dist long (get_or t.starts k 0) p.mark (start_has_row proper is_link)

  own_read : get_or dist v 0 ≡ get_or dist v p.mark
  own_read = read_row dist long v p.mark is_node

  module _ {start cost : ℕ} (s : start ≡ get_or t.starts k 0) (e : cost ≡ get_or t.costs k 0) {exact : Bool}
      (asked : Tells (Exact p.mark (get_or dist start 0) cost (get_or dist v 0)) exact) where
    -- the sum is right: it depends on whether the link is usable
    pub holds_usable : exact ≡ true → get_or t.ends k 0 ≡ v → {answer : Bool} → Tells (Usable (net_in p t) k) answer
        → Tells (Holds (net_in p t) (λ u. get_or dist u p.mark) v k) answer
    holds_usable a ends usable =
        tells_same (λ u. record { reached = x.reached; tight = record { usable = u; ends_at = ends; from_reached = x.from_reached; sum = x.sum } }) (λ h. h.tight.usable) usable
      where
        x : Exact p.mark (get_or dist (get_or t.starts k 0) p.mark) (get_or t.costs k 0) (get_or dist v p.mark)
        x = rw (s, from_read, own_read, e) at (asked.holds a)

    pub holds_not : exact ≡ false → Tells (Holds (net_in p t) (λ u. get_or dist u p.mark) v k) false
    holds_not a = tells_no (λ h. asked.fails a (rw (s, from_read, own_read, e) (here h)))
      where
        here : Holds (net_in p t) (λ u. get_or dist u p.mark) v k
            → Exact p.mark (get_or dist (get_or t.starts k 0) p.mark) (get_or t.costs k 0) (get_or dist v p.mark)
        here h = record { reached = h.reached; from_reached = h.tight.from_reached; sum = h.tight.sum }

-- ---- a pass over the nodes

-- each node before v keeps its old link or takes the one found; the others have their old link
pub record Keeping (N : Net) (dist : ℕ → ℕ) (found : List ℕ) (v : ℕ) (old new : List ℕ) : Type 0 where
  pub long : length new ≡ most_nodes
  pub done : (u : ℕ) → u < v → Kept (Holds N dist u) (get_or old u no_link) (get_or found u no_link) (get_or new u no_link)
  pub rest : (u : ℕ) → v ≤ u → get_or new u no_link ≡ get_or old u no_link

-- no link has the number for none
pub none_holds_not : (p : Profile) {t : Table} → Proper t → {dist : ℕ → ℕ} {v : ℕ} → Holds (net_in p t) dist v no_link → ⊥
none_holds_not p proper h = omega (arith, h.tight.usable.is_link, proper.few_links)
