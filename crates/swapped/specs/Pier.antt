-- Two batches on the pier network that end with P2's tree in one order and with P5's in the other. Assumes nothing.
use Rattle.std.specs.Prelude.{List, [], ◌∷◌}
use Rattle.rules.specs.Columns.{Table, Arrays, after}
use Rattle.rules.specs.declared.Change.{Change}
use Rattle.pier.specs.Pier.{Line, update, pier, ◌to◌, rows, none, tree1, tree2, tree4}

-- P2's two rows, each a batch of its own
unfoldable pub dearer : List Change
dearer = 3 to 5 ∷ []

unfoldable pub cheaper : List Change
cheaper = 0 to 2 ∷ []

-- after the one and after the other, from P1
unfoldable pub dearer_first : Arrays
unfolding rows
dearer_first = rows (0 ∷ 4 ∷ 7 ∷ 8 ∷ []) (none ∷ 0 ∷ 1 ∷ 6 ∷ []) (none ∷ 0 ∷ 1 ∷ 1 ∷ [])

unfoldable pub cheaper_first : Arrays
unfolding rows
cheaper_first = rows (0 ∷ 2 ∷ 4 ∷ 5 ∷ []) (none ∷ 0 ∷ 3 ∷ 6 ∷ []) (none ∷ 0 ∷ 0 ∷ 0 ∷ [])

unfoldable pub swapped_lines : List Line
unfolding pier dearer cheaper dearer_first cheaper_first tree1 tree2 tree4
swapped_lines =
    -- node 2 leaves link 3 for link 1, and keeps that when both are tight
    update pier tree1 dearer dearer_first (2 ∷ 3 ∷ []) ∷
    update (after pier dearer) dearer_first cheaper tree4 (1 ∷ []) ∷
    -- node 2 is on link 3 throughout
    update pier tree1 cheaper cheaper_first (1 ∷ 2 ∷ 3 ∷ []) ∷
    update (after pier cheaper) cheaper_first dearer tree2 (2 ∷ 3 ∷ []) ∷
    []
