-- `alone::row_right` meets its contract: Laws.antt has a law for each of the three kinds of rows. Assumes nothing.
use Rattle.alone.proofs.Laws.{dist_read, parent_read, first_read, row_root, row_bare, row_hung}
use Rattle.alone.proofs.row_right.Goals as goal

pub returns-then-v-table : goal.returns-then-v-table
returns-then-v-table c =
    let p = c.args.table.now.profile in
    let whole = c.args.tree.now.whole in
    row_root _ _ _
    (rw (c.row-row.ensures, dist_read p whole c.requires.node, parent_read p whole c.requires.node, first_read p whole c.requires.node) at c.empty_at.ensures)
    c.if-v-table.true

pub returns-then-row-table : goal.returns-then-row-table
returns-then-row-table c =
    let p = c.args.table.now.profile in
    let whole = c.args.tree.now.whole in
    row_bare _ _ _
    (rw (c.row-row.ensures, dist_read p whole c.requires.node, parent_read p whole c.requires.node, first_read p whole c.requires.node) at c.empty_at-then-row-table.ensures)
    c.if-v-table.false
    (rw (c.row-row.ensures, dist_read p whole c.requires.node) at c.if-row-table.true)

pub returns-else-row-table : goal.returns-else-row-table
returns-else-row-table c =
    row_hung _ _ _ c.hung.ensures c.if-v-table.false
    (rw (c.row-row.ensures, dist_read c.args.table.now.profile c.args.tree.now.whole c.requires.node) at c.if-row-table.false)
