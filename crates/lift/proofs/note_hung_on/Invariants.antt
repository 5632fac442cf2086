-- `lift::note_hung_on` meets its contract. The invariant: every node stands but those that hang on u by link k or a later
-- one. Assumes nothing.
use Rattle.usable.specs.Standing.{net_at}
use Rattle.lift.proofs.Notes.{Noting}
use Rattle.lift.proofs.note_hung_on.Given as goal

abbrev pub invariant-loop-k : goal.invariant-loop-k
invariant-loop-k l = Noting (net_at l.net.table) l.parent l.u l.first l.dist l.queue l.k
