-- `grow::mend` meets its contract: taking the mark for the ceiling makes no other tree. Assumes nothing.
use Rattle.grow.proofs.Laws.{regrown_up}
use Rattle.grow.proofs.mend.Goals as goal

pub returns : goal.returns
returns c =
    let table = c.args.table.now in
    regrown_up table.profile table.proper c.requires.ample (rw (c.at_level.ensures.profile, c.at_level.ensures.table) at c.mend_level.ensures)
