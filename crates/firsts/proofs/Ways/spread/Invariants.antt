-- `firsts::Ways::spread` meets its contract. The loop's invariant is that the link is the first link of `v` and is written
-- below it; the measure is the distance of `v`. Assumes nothing.
use lib.ListN.{get_or}
use Rattle.firsts.proofs.Laws.{Spreading}
use Rattle.firsts.proofs.Ways.spread.Given as goal

abbrev pub invariant-loop-v : goal.invariant-loop-v
invariant-loop-v l = Spreading l.self.table.now.root l.self.table.now.starts.now l.self.parent.now l.node l.link l.v l.initial.first l.first

abbrev pub decreases-loop-v : goal.decreases-loop-v
decreases-loop-v l = get_or l.self.dist.now l.v 0
