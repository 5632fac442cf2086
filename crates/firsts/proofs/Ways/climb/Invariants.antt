-- `firsts::Ways::climb` meets its contract. The loop's invariant is that the first link of `v` is that of the node; the measure
-- is the distance of `v`. Assumes nothing.
use lib.ListN.{get_or}
use Rattle.firsts.proofs.Laws.{Climbing}
use Rattle.firsts.proofs.Ways.climb.Given as goal

abbrev pub invariant-loop-node : goal.invariant-loop-node
invariant-loop-node l = Climbing l.self.table.now.root l.self.table.now.starts.now l.self.parent.now l.node l.v

abbrev pub decreases-loop-node : goal.decreases-loop-node
decreases-loop-node l = get_or l.self.dist.now l.v 0
