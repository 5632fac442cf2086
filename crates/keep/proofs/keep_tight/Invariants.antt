-- `keep::keep_tight` meets its contract. The loop's invariant is that the nodes before `v` are done and the others as
-- they were. Assumes nothing.
use Rattle.usable.specs.Standing.{net_at, dist_in}
use Rattle.keep.proofs.Laws.{Keeping}
use Rattle.keep.proofs.keep_tight.Given as goal

abbrev pub invariant-loop-v : goal.invariant-loop-v
invariant-loop-v l = Keeping (net_at l.net.table) (dist_in l.net.table.profile l.dist) l.found l.v l.initial.parent l.parent
