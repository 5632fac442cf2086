-- `lift::note_loose` meets its contract. The invariant: every node below v stands. Assumes nothing.
use Prim.Native.Nat.{◌<◌}
use Rattle.usable.specs.Standing.{net_at}
use Rattle.lift.specs.Loose.{Loose}
use Rattle.lift.proofs.note_loose.Given as goal

abbrev pub invariant-loop-v : goal.invariant-loop-v
invariant-loop-v l = Loose (net_at l.net.table) l.parent (λ w. w < l.v) l.dist l.queue
