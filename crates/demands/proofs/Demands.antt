-- Demands 2 and 3, of every tree that the rules admit. Assumes nothing.
use mathlib.Core.Path.{◌≡◌, refl}
use mathlib.Core.List.{List}
use Prim.Native.Nat.{ℕ}
use Rattle.rules.specs.Columns.{Table, Arrays, Whole, net_of, rows_of, after}
use Rattle.rules.specs.Refusals.{Verdict, accepted, judge_links, judge_tree}
use Rattle.rules.specs.Jobs.{Built, built, not_built, Updated}
use Rattle.rules.specs.Demands.{Stands, first, later, SixteenBit, LeastSums, ListsChanged, Stable}
use Rattle.rules.specs.declared.Change.{Change}
use Rattle.rules.proofs.Judged.{legal, not_refused}
use Rattle.rules.proofs.Accepted.{Good, built_good, update_accept, update_good}
use Rattle.demands.proofs.Judged.{fits_accepted, after_accepted}
use Rattle.demands.proofs.Fits.{fits_tells}
use Rattle.demands.proofs.Changed.{changed_named}
use Rattle.demands.proofs.Kept.{keeps_each, keeps_most}

pub stands_good : {t : Table} {tree : Arrays} → Stands t tree → Good t tree
stands_good (first b) = built_good b refl
stands_good (later s u) = update_good (update_accept u refl)

-- and judging accepts what stands
built_table : {t : Table} {v : Verdict} {tree : Arrays} → Built t v tree → v ≡ accepted → judge_links t ≡ accepted
built_table (built e w f) q = e
built_table (not_built e) q = absurd (not_refused q)

stands_table : {t : Table} {tree : Arrays} → Stands t tree → judge_links t ≡ accepted
stands_table (first b) = built_table b refl
stands_table (later {t = t} {batch = batch} s u) = after_accepted t batch (stands_table s)

pub stands_accepted : {t : Table} {tree : Arrays} → Stands t tree → judge_tree t tree ≡ accepted
stands_accepted {t} {tree} s = fits_accepted t tree (stands_table s) (stands_good s).fits

-- ---- demand 2

pub demand_2 : {t : Table} {tree : Arrays} → Stands t tree → SixteenBit t.costs → LeastSums t tree
demand_2 s c = let g = stands_good s in (fits_tells g.table c g.fits).sums

pub demand_2_list : {t : Table} {old new : Arrays} {batch : List Change} {list costs listed : List ℕ} {count : ℕ} → Whole old
    → Updated t old batch list accepted new costs listed count → ListsChanged (rows_of old) (rows_of new) list listed count
demand_2_list w u =
    let a = update_accept u refl in
    record { changed = _; names = changed_named w u; at_front = a.listed; counted = a.count }

-- ---- demand 3

pub demand_3 : {t : Table} {old new : Arrays} {batch : List Change} {list costs listed : List ℕ} {count : ℕ}
    → Updated t old batch list accepted new costs listed count → Stable (net_of (after t batch)) (rows_of old).parent (rows_of new)
demand_3 u =
    let a = update_accept u refl in
    let fine = legal (update_good a).table in
    record {
      most = λ other f. keeps_most fine a.next f;
      each = λ v o n other f p. n (keeps_each fine a.next f v o p);
    }
