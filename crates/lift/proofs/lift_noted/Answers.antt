-- `lift::lift_noted` meets its contract: the nearest node goes to unreached, and one node less is reached. Assumes nothing.
use Rattle.afoot.proofs.Rounds.{chosen}
use Rattle.lift.proofs.Lifts.{lift_stands, lift_falls, lifted}
use Rattle.lift.proofs.lift_noted.Goals as goal

pub note_hung_on-requires-clause-stand : goal.note_hung_on-requires-clause-stand
note_hung_on-requires-clause-stand c =
    let stand = c.loop-u.invariant.stand in
    lift_stands stand (chosen stand.lined c.in-Some.ensures) c.in-Some.ensures.is_set

pub loop-u-smaller : goal.loop-u-smaller
loop-u-smaller c =
    let stand = c.loop-u.invariant.stand in
    lift_falls stand (chosen stand.lined c.in-Some.ensures) c.in-Some.ensures.is_set

pub returns-clause-lifted : goal.returns-clause-lifted
returns-clause-lifted c = rw c.in_default.ensures.1 (lifted c.loop-u.invariant.stand c.in_default.ensures.0)
