-- `grow::regrow` meets its contract: taking the mark for the ceiling makes no other tree. Assumes nothing.
use Rattle.grow.proofs.Laws.{fitted_down, regrown_up}
use Rattle.grow.proofs.regrow.Goals as goal

pub regrow_level-requires-clause-fitted : goal.regrow_level-requires-clause-fitted
regrow_level-requires-clause-fitted c =
    let table = c.args.table.now in
    rw (c.at_level.ensures.profile, c.at_level.ensures.table) (fitted_down table.profile table.proper c.requires.ample c.requires.fitted)

pub returns : goal.returns
returns c =
    let table = c.args.table.now in
    regrown_up table.profile table.proper c.requires.ample (rw (c.at_level.ensures.profile, c.at_level.ensures.table) at c.regrow_level.ensures)
