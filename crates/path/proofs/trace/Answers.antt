-- `path::trace` meets its contract: the count decides whether there is room, and where there is, the filled front is copied.
-- Assumes nothing.
use Rattle.path.proofs.Laws.{traced_short, traced_whole}
use Rattle.path.proofs.trace.Goals as goal

pub returns-then-list-n : goal.returns-then-list-n
returns-then-list-n c = traced_short c.depth-n.ensures c.if-list-n.true

pub returns : goal.returns
returns c = traced_whole c.fill.ensures c.if-list-n.false (cc c.copy_from_slice.ensures.after)
