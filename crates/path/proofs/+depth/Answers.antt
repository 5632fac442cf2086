-- `path::depth` meets its contract: each step keeps the climb, and one more link is counted for it. Assumes nothing.
use native.Mathlib.Omega.{arith}
use Rattle.path.proofs.Laws.{climb_last, counted_more}
use Rattle.path.proofs.+depth.Goals as goal

pub depth-requires : goal.depth-requires
depth-requires t c =
    let climb = climb_last c.if-node-links.false c.requires in
    (omega (arith, climb.step.nearer, c.decreases), climb.rest)

pub returns : goal.returns
returns t c = counted_more c.if-node-links.false (climb_last c.if-node-links.false c.requires).step c.depth.ensures
