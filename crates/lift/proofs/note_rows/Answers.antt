-- `lift::note_rows` meets its contract: each row's link is asked, at its end and at its start. Assumes nothing.
use native.Mathlib.Omega.{arith}
use Rattle.lift.proofs.Notes.{rows_more, rows_all}
use Rattle.lift.proofs.note_rows.Goals as goal

pub loop-i-preserved : goal.loop-i-preserved
loop-i-preserved c = rows_more c.args.changed.now c.loop-i.invariant c.note_end.ensures c.note_start.ensures

pub returns : goal.returns
returns c = rows_all c.args.changed.now (omega arith) c.loop-i.invariant
