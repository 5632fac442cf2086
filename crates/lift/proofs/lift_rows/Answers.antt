-- `lift::lift_rows` meets its contract: where no node was noted nothing changes. Assumes nothing.
use mathlib.Core.Path.{refl}
use Rattle.lift.specs.Loose.{none, some}
use Rattle.lift.proofs.Lifts.{lifted}
use Rattle.lift.proofs.lift_rows.Goals as goal

pub returns-then-is_empty-clause-lifted : goal.returns-then-is_empty-clause-lifted
returns-then-is_empty-clause-lifted c = lifted c.note_rows.ensures (c.is_empty.ensures.0 c.if-is_empty.true)

pub returns-then-is_empty-clause-rows : goal.returns-then-is_empty-clause-rows
returns-then-is_empty-clause-rows c = none refl refl

pub returns-clause-rows : goal.returns-clause-rows
returns-clause-rows c = some c.lift_noted.ensures.fates
