-- `alone::hung` meets its contract: Laws.antt says what each test decides of a row. Assumes nothing.
use native.Mathlib.Omega.{arith}
use Rattle.backed.proofs.Marks.{above_link}
use Rattle.alone.proofs.Laws.{dist_read, parent_read, hung_past, hung_far, hung_unlinked, hung_by_lem}
use Rattle.alone.proofs.hung.Goals as goal
use Rattle.alone.proofs.hung.Goals.{then-table-v-via-then-table-v, then-table-v-via-else-table-v+then-table-from, then-table-v-via-else-table-v+else-table-from+then-table-by}

pub returns-then-table-v : goal.returns-then-table-v
returns-then-table-v c =
    let dist = dist_read c.args.table.now.profile c.args.tree.now.whole c.requires.node in
    let parent = parent_read c.args.table.now.profile c.args.tree.now.whole c.requires.node in
    elim c.then-table-v.branch [
      | then-table-v-via-then-table-v w ↦ hung_past _ _ _ w.if-table-v.true
      | then-table-v-via-else-table-v+then-table-from w ↦ hung_far _ _ _ w.if-table-v.false (omega (arith, dist))
      | then-table-v-via-else-table-v+else-table-from+then-table-by w ↦ hung_unlinked _ _ _ w.if-table-v.false (omega (arith, dist)) (omega (arith, parent))
    ]

pub hung_by-requires-clause-marked : goal.hung_by-requires-clause-marked
hung_by-requires-clause-marked c =
    rw (above_link c.args.table.now.starts.now _ c.if-table-by.false) (c.requires.backed.each c.args.v c.requires.node)

pub returns : goal.returns
returns c =
    let dist = dist_read c.args.table.now.profile c.args.tree.now.whole c.requires.node in
    let parent = parent_read c.args.table.now.profile c.args.tree.now.whole c.requires.node in
    hung_by_lem _ _ _ c.if-table-v.false (omega (arith, dist)) (rw parent at c.hung_by.ensures)
