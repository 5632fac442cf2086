-- What an accepted build or update hands back, and how far its nodes can be. Assumes nothing.
use mathlib.Core.Path.{◌≡◌, refl, ap}
use mathlib.Core.List.{List}
use Prim.Native.Nat.{ℕ, ◌≤◌, ◌<◌}
use native.Mathlib.Omega.{arith}
use native.Mathlib.Nat.{mul-le-mul_left}
use lib.ListN.{length}
use Rattle.rules.specs.Fit.{Reached, Fits}
use Rattle.rules.specs.Keep.{Next}
use Rattle.rules.specs.Columns.{Table, Proper, Arrays, Whole, net_of, rows_of, after, applied, most_cost}
use Rattle.rules.specs.Refusals.{Verdict, accepted, judge_update}
use Rattle.rules.specs.Jobs.{written, changed_below, Built, built, not_built, Updated, updated, not_updated}
use Rattle.rules.specs.Demands.{SixteenBit}
use Rattle.rules.specs.declared.Change.{Change}
use Rattle.rules.proofs.Room.{fits_bound}
use Rattle.rules.proofs.Judged.{links_proper, legal, roomy, not_refused}
use Rattle.rules.proofs.OneOutcome.{after_proper, tree_links, update_links}

pub record Good (t : Table) (tree : Arrays) : Type 0 where
  pub table : Proper t
  pub whole : Whole tree
  pub fits : Fits (net_of t) (rows_of tree)

pub built_good : {t : Table} {v : Verdict} {tree : Arrays} → Built t v tree → v ≡ accepted → Good t tree
built_good {t} (built e w f) q = record { table = links_proper t e; whole = w; fits = f.fits }
built_good (not_built e) q = absurd (not_refused q)

-- what an accepted update hands back
pub record Accept (t : Table) (old : Arrays) (batch : List Change) (list : List ℕ) (new : Arrays) (c l : List ℕ) (n : ℕ) : Type 0 where
  pub judged : judge_update t old batch list ≡ accepted
  pub whole : Whole new
  pub next : Next (net_of (after t batch)) (rows_of new) (rows_of old).parent
  pub costs : c ≡ applied batch t.costs
  pub listed : l ≡ written (changed_below (rows_of old) (rows_of new) t.nodes) list
  pub count : n ≡ length (changed_below (rows_of old) (rows_of new) t.nodes)

pub update_accept : {t : Table} {old new : Arrays} {batch : List Change} {list costs listed : List ℕ} {v : Verdict} {count : ℕ}
    → Updated t old batch list v new costs listed count → v ≡ accepted → Accept t old batch list new costs listed count
update_accept {list = list} (updated changed e w n q) a =
    record { judged = e; whole = w; next = n; costs = refl; listed = ap (λ (l : List ℕ). written l list) q; count = ap length q }
update_accept (not_updated e) a = absurd (not_refused a)

module _ {t : Table} {old new : Arrays} {batch : List Change} {list costs listed : List ℕ} {count : ℕ} where
  pub update_table : Accept t old batch list new costs listed count → Proper t
  update_table a = tree_links t old (update_links t old batch list a.judged)

  pub update_good : Accept t old batch list new costs listed count → Good (after t batch) new
  update_good a = record { table = after_proper batch (update_table a); whole = a.whole; fits = a.next.fits }

-- no distance of a reached node passes 16,711,425
pub largest_distance : {t : Table} {tree : Arrays} → Good t tree → SixteenBit t.costs → (v : ℕ) → v < t.nodes → Reached (net_of t) (rows_of tree) v
    → (rows_of tree).dist v ≤ 16711425
largest_distance {t} g c v l s =
    omega (arith, fits_bound (legal g.table) (roomy g.table c) g.fits v l s, mul-le-mul_left most_cost g.table.few_nodes)
