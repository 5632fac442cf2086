-- `path::fill` meets its contract: the node's last link is written at its place, and the rest of the climb before it.
-- Assumes nothing.
use native.Mathlib.Omega.{arith}
use Rattle.path.proofs.Laws.{few_links, counted_last, filled_more}
use Rattle.path.proofs.+fill.Goals as goal

pub offset_bounds-path-last : goal.offset_bounds-path-last
offset_bounds-path-last t c = omega (arith, few_links c.requires.is_node c.requires.counted)

pub bounds-path-last : goal.bounds-path-last
bounds-path-last t c = omega (arith, few_links c.requires.is_node c.requires.counted)

pub fill-requires : goal.fill-requires
fill-requires t c =
    let last = counted_last c.if-node-links.true c.requires.counted in
    (omega (arith, last.step.nearer, c.decreases), (last.step.is_node, last.rest))

pub returns-then-node-links : goal.returns-then-node-links
returns-then-node-links t c =
    let last = counted_last c.if-node-links.true c.requires.counted in
    filled_more c.if-node-links.true last.step last.some (omega (arith, few_links c.requires.is_node c.requires.counted)) c.fill.ensures
