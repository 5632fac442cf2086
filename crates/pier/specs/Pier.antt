-- The pier network and what 01 says of it, P1 to P12, and two paths more. proofs/Pier.antt shows each line of the
-- rules themselves. Assumes nothing.
use Rattle.std.specs.Prelude.{List, [], ◌∷◌, ◌++◌, ℕ, ◌-◌, ◌≤◌, length, replicate}
use Rattle.rules.specs.Columns.{Table, Arrays, arrays, most_nodes, unreached, no_link, after, applied}
use Rattle.rules.specs.Refusals.{both, Values, accepted, refused}
use Rattle.rules.specs.Jobs.{written, Built, Updated, Pathed}
use Rattle.rules.specs.declared.Change.{Change}

infixr 80 ◌to◌
-- ---- the network

unfoldable pub pier : Table
pier = record {
  nodes = 4;
  root = 0;
  starts = 0 ∷ 0 ∷ 1 ∷ 1 ∷ 2 ∷ 2 ∷ 2 ∷ 3 ∷ [];
  ends = 1 ∷ 2 ∷ 0 ∷ 2 ∷ 0 ∷ 1 ∷ 3 ∷ 2 ∷ [];
  costs = 4 ∷ 7 ∷ 4 ∷ 2 ∷ 7 ∷ 2 ∷ 1 ∷ 1 ∷ [];
}

-- one node, no links
unfoldable pub lone : Table
lone = record { nodes = 1; root = 0; starts = []; ends = []; costs = [] }

-- a row: a link and its new cost
abbrev pub ◌to◌ : ℕ → ℕ → Change
link to cost = record { link = link; cost = cost }

-- the entries of the first nodes, and every other node's empty one
unfoldable pub padded : ℕ → List ℕ → List ℕ
padded empty entries = entries ++ replicate (most_nodes - length entries) empty

unfoldable pub rows : List ℕ → List ℕ → List ℕ → Arrays
unfolding padded
rows dist parent first = arrays (padded unreached dist) (padded no_link parent) (padded no_link first)

-- 01's "-"
abbrev pub none : ℕ
none = no_link

-- ---- what a line says

pub data Line : Type 0 where
  fresh : (t : Table) (tree : Arrays) → Line
  update : (t : Table) (old : Arrays) (batch : List Change) (new : Arrays) (changed : List ℕ) → Line
  refuse : (t : Table) (old : Arrays) (batch : List Change) (number : ℕ) (values : Values) → Line
  path : (t : Table) (tree : Arrays) (node : ℕ) (links : List ℕ) → Line

-- whatever list is lent, if it is long enough
abbrev pub LineHolds : Line → Type 0
LineHolds (fresh t tree) = Built t accepted tree
LineHolds (update t old batch new changed) = (list : List ℕ) → t.nodes ≤ length list
    → Updated t old batch list accepted new (applied batch t.costs) (written changed list) (length changed)
LineHolds (refuse t old batch number values) = (list : List ℕ) → Updated t old batch list (refused number values) old t.costs list 0
LineHolds (path t tree node links) = (list : List ℕ) → length links ≤ length list → Pathed t tree node list accepted (written links list) (length links)

unfoldable pub LinesHold : List Line → Type 0
LinesHold [] = Unit {0}
LinesHold (l ∷ ls) = LineHolds l × LinesHold ls

-- ---- P1 to P12

unfoldable pub batch2 : List Change
batch2 = 3 to 5 ∷ 0 to 2 ∷ []

unfoldable pub batch4 : List Change
batch4 = 3 to 6 ∷ []

unfoldable pub tree1 : Arrays
unfolding rows
tree1 = rows (0 ∷ 4 ∷ 6 ∷ 7 ∷ []) (none ∷ 0 ∷ 3 ∷ 6 ∷ []) (none ∷ 0 ∷ 0 ∷ 0 ∷ [])

unfoldable pub tree2 : Arrays
unfolding rows
tree2 = rows (0 ∷ 2 ∷ 7 ∷ 8 ∷ []) (none ∷ 0 ∷ 3 ∷ 6 ∷ []) (none ∷ 0 ∷ 0 ∷ 0 ∷ [])

-- P2's distances, with node 2 on link 1
unfoldable pub tree4 : Arrays
unfolding rows
tree4 = rows (0 ∷ 2 ∷ 7 ∷ 8 ∷ []) (none ∷ 0 ∷ 1 ∷ 6 ∷ []) (none ∷ 0 ∷ 1 ∷ 1 ∷ [])

unfoldable pub tree7 : Arrays
unfolding rows
tree7 = rows (0 ∷ 4 ∷ 5 ∷ 6 ∷ []) (none ∷ 0 ∷ 1 ∷ 6 ∷ []) (none ∷ 0 ∷ 1 ∷ 1 ∷ [])

unfoldable pub tree8 : Arrays
unfolding rows
tree8 = rows (0 ∷ 9 ∷ 7 ∷ 8 ∷ []) (none ∷ 5 ∷ 1 ∷ 6 ∷ []) (none ∷ 1 ∷ 1 ∷ 1 ∷ [])

unfoldable pub tree9 : Arrays
unfolding rows
tree9 = rows (0 ∷ 4 ∷ 6 ∷ []) (none ∷ 0 ∷ 3 ∷ []) (none ∷ 0 ∷ 0 ∷ [])

unfoldable pub tree12 : Arrays
unfolding rows
tree12 = rows (0 ∷ []) [] []

unfoldable pub pier_lines : List Line
unfolding pier lone rows batch2 batch4 tree1 tree2 tree4 tree7 tree8 tree9 tree12
pier_lines =
    -- P1
    fresh pier tree1 ∷
    -- P2
    update pier tree1 batch2 tree2 (1 ∷ 2 ∷ 3 ∷ []) ∷
    -- P3
    fresh (after pier batch2) tree4 ∷
    -- P4
    update (after pier batch2) tree2 batch4 tree4 (2 ∷ 3 ∷ []) ∷
    -- P5
    update (after (after pier batch2) batch4) tree4 (3 to 5 ∷ []) tree4 [] ∷
    -- P6, and P7 from it and from P1
    update pier tree1 (1 to 6 ∷ []) tree1 [] ∷
    update (after pier (1 to 6 ∷ [])) tree1 (1 to 5 ∷ []) tree7 (2 ∷ 3 ∷ []) ∷
    update pier tree1 (1 to 5 ∷ []) tree7 (2 ∷ 3 ∷ []) ∷
    -- P8
    update pier tree1 (0 to 0 ∷ []) tree8 (1 ∷ 2 ∷ 3 ∷ []) ∷
    -- P9
    update pier tree1 (6 to 0 ∷ []) tree9 (3 ∷ []) ∷
    -- P10: link 6 has lost its link back
    update pier tree1 (7 to 0 ∷ []) tree9 (3 ∷ []) ∷
    -- P11
    refuse pier tree1 (3 to 5 ∷ 0 to 2 ∷ 3 to 6 ∷ []) 9 (both 2 0) ∷
    -- P12
    fresh lone tree12 ∷
    path lone tree12 0 [] ∷
    -- paths in the trees of P1 and P8
    path pier tree1 3 (0 ∷ 3 ∷ 6 ∷ []) ∷
    path (after pier (0 to 0 ∷ [])) tree8 1 (1 ∷ 5 ∷ []) ∷
    []
