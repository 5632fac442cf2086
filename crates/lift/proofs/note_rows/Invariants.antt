-- `lift::note_rows` meets its contract. The invariant: every node stands but those whose parent link a row from this one
-- on touches. Assumes nothing.
use Rattle.usable.specs.Standing.{net_at}
use Rattle.lift.specs.Loose.{StandApart}
use Rattle.lift.proofs.note_rows.Given as goal

abbrev pub invariant-loop-i : goal.invariant-loop-i
invariant-loop-i l = StandApart (net_at l.net.table) l.parent l.changed l.i l.dist l.queue
