-- The three demands. The crate `demands` shows that the rules meet them. Assumes nothing.
use Rattle.std.specs.Prelude.{◌≡◌, ◌≢◌, true, List, ℕ, ◌≤◌, ◌<◌, length, get_or}
use Rattle.rules.specs.Net.{Net, Walk, Least}
use Rattle.rules.specs.Fit.{Rows, Reached, Fits, Routed}
use Rattle.rules.specs.Keep.{kept_count}
use Rattle.rules.specs.Columns.{Table, Arrays, net_of, rows_of, after, most_cost, unreached, no_link}
use Rattle.rules.specs.Refusals.{accepted}
use Rattle.rules.specs.Jobs.{written, differs, Built, Updated}
use Rattle.rules.specs.declared.Change.{Change}

-- ---- demand 1

-- a refused update leaves tree, costs and list as they were
pub record Untouched (t : Table) (old : Arrays) (list : List ℕ) (new : Arrays) (costs listed : List ℕ) (count : ℕ) : Type 0 where
  pub tree_stays : new ≡ old
  pub costs_stay : costs ≡ t.costs
  pub list_stays : listed ≡ list
  pub count_zero : count ≡ 0

-- ---- demand 2

-- what stands after a fresh build and after any sequence of accepted batches
pub data Stands : Table → Arrays → Type 0 where
  first : {t : Table} {tree : Arrays} → Built t accepted tree → Stands t tree
  later : {t : Table} {old new : Arrays} {batch : List Change} {list costs listed : List ℕ} {count : ℕ} → Stands t old
      → Updated t old batch list accepted new costs listed count → Stands (after t batch) new

-- each cost is a 16-bit number
pub record SixteenBit (costs : List ℕ) : Type 0 where
  pub narrow : (k : ℕ) → get_or costs k 0 ≤ most_cost

-- each node's distance is the least sum of costs over the links then usable; unreached means exactly that no usable
-- path leads there; every other node's tree path has that length
pub record LeastSums (t : Table) (tree : Arrays) : Type 0 where
  pub least : (v : ℕ) → Reached (net_of t) (rows_of tree) v → Least (net_of t) v ((rows_of tree).dist v)
  pub no_path : (v : ℕ) → (rows_of tree).dist v ≡ unreached → (d : ℕ) → Walk (net_of t) v d → ⊥
  pub only_then : (v : ℕ) → ((d : ℕ) → Walk (net_of t) v d → ⊥) → (rows_of tree).dist v ≡ unreached
  pub routed : (v : ℕ) → Reached (net_of t) (rows_of tree) v → Routed (net_of t) (rows_of tree) v

-- the least sums, a tree path of that length with its first link for each reached node, and every other entry empty:
-- a tree says this exactly when it fits
pub record TellsRoutes (t : Table) (tree : Arrays) : Type 0 where
  pub sums : LeastSums t tree
  pub root_parent : (rows_of tree).parent t.root ≡ no_link
  pub no_parent : (v : ℕ) → (rows_of tree).dist v ≡ unreached → (rows_of tree).parent v ≡ no_link
  pub no_first : (v : ℕ) → (rows_of tree).dist v ≡ unreached → (rows_of tree).first v ≡ no_link

-- the nodes named are exactly those whose row differs, in rising order
pub record Names (old new : Rows) (changed : List ℕ) : Type 0 where
  pub named : (v : ℕ) → differs old new v ≡ true → (i : ℕ) × (i < length changed) × (get_or changed i 0 ≡ v)
  pub only : (i : ℕ) → i < length changed → differs old new (get_or changed i 0) ≡ true
  pub rising : (i j : ℕ) → i < j → j < length changed → get_or changed i 0 < get_or changed j 0

-- what is handed back names them at the front of the list as it was lent, and counts them
pub record ListsChanged (old new : Rows) (list listed : List ℕ) (count : ℕ) : Type 0 where
  pub changed : List ℕ
  pub names : Names old new changed
  pub at_front : listed ≡ written changed list
  pub counted : count ≡ length changed

-- ---- demand 3

-- no shortest route tree keeps more nodes on their old link; a node leaves its link only where no such tree could
-- have kept it
pub record Stable (N : Net) (old : ℕ → ℕ) (new : Rows) : Type 0 where
  pub most : (other : Rows) → Fits N other → kept_count N old other ≤ kept_count N old new
  pub each : (v : ℕ) → old v ≢ N.none → new.parent v ≢ old v → (other : Rows) → Fits N other → other.parent v ≢ old v
