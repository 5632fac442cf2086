-- `grow::grow` meets its contract: taking the mark for the ceiling makes no other tree. Assumes nothing.
use Rattle.grow.proofs.Laws.{grown_up}
use Rattle.grow.proofs.grow.Goals as goal

pub returns : goal.returns
returns c =
    let table = c.args.table.now in
    grown_up table.profile table.proper c.requires (rw (c.at_level.ensures.profile, c.at_level.ensures.table) at c.grow_level.ensures)
