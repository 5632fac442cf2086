-- What each job gives back, for every input: its verdict, its tree, the cost column and each lent list.
-- Assumes nothing.
use Rattle.std.specs.Prelude.{◌≡◌, Bool, ◌&&◌, not, cond, List, [], ◌∷◌, ◌++◌, ℕ, zero, suc, ◌≤◌, ◌<◌, eqb, length, drop}
use Rattle.rules.specs.Fit.{Rows, Path}
use Rattle.rules.specs.Keep.{Fresh, Next}
use Rattle.rules.specs.Columns.{Table, Arrays, Whole, net_of, rows_of, empty_tree, applied, after}
use Rattle.rules.specs.Refusals.{Values, only, Verdict, accepted, refused, judge_links, judge_update, judge_asked}
use Rattle.rules.specs.declared.Change.{Change}

-- entries written at the front of a lent list, whose other places stay
abbrev pub written : List ℕ → List ℕ → List ℕ
written front list = front ++ drop (length front) list

-- v's distance, parent or first link differs
unfoldable pub differs : Rows → Rows → ℕ → Bool
differs r s v = not (eqb (r.dist v) (s.dist v) && eqb (r.parent v) (s.parent v) && eqb (r.first v) (s.first v))

-- the changed nodes below n, in rising order
unfoldable pub changed_below : Rows → Rows → ℕ → List ℕ
unfolding differs
changed_below r s zero = []
changed_below r s (suc n) = changed_below r s n ++ cond (differs r s n) (n ∷ []) []

-- Fresh build
pub data Built (t : Table) : Verdict → Arrays → Type 0 where
  built : {tree : Arrays} → judge_links t ≡ accepted → Whole tree → Fresh (net_of t) (rows_of tree) → Built t accepted tree
  not_built : {number : ℕ} {values : Values} → judge_links t ≡ refused number values → Built t (refused number values) empty_tree

-- Update: verdict, next tree, cost column, lent list and count
pub data Updated (t : Table) (old : Arrays) (batch : List Change) (list : List ℕ) : Verdict → Arrays → List ℕ → List ℕ → ℕ → Type 0 where
  updated : {new : Arrays} (changed : List ℕ) → judge_update t old batch list ≡ accepted
      → Whole new → Next (net_of (after t batch)) (rows_of new) (rows_of old).parent
      → changed ≡ changed_below (rows_of old) (rows_of new) t.nodes
      → Updated t old batch list accepted new (applied batch t.costs) (written changed list) (length changed)
  not_updated : {number : ℕ} {values : Values} → judge_update t old batch list ≡ refused number values
      → Updated t old batch list (refused number values) old t.costs list 0

-- Path: verdict, lent list and count
pub data Pathed (t : Table) (tree : Arrays) (node : ℕ) (list : List ℕ) : Verdict → List ℕ → ℕ → Type 0 where
  pathed : {links : List ℕ} → judge_asked t tree node ≡ accepted → Path (net_of t) (rows_of tree) node links
      → length links ≤ length list → Pathed t tree node list accepted (written links list) (length links)
  too_short : {links : List ℕ} → judge_asked t tree node ≡ accepted → Path (net_of t) (rows_of tree) node links
      → length list < length links → Pathed t tree node list (refused 12 (only 0)) list 0
  not_pathed : {number : ℕ} {values : Values} → judge_asked t tree node ≡ refused number values
      → Pathed t tree node list (refused number values) list 0
