-- `plain::read` meets its contract: what is handed back is what the reader gives. Assumes nothing.
use Rattle.stream.proofs.Laws.{given_is}
use Rattle.plain.proofs.Readings.{hands_back}
use Rattle.plain.proofs.read.Goals as goal

pub returns : goal.returns
returns c =
    hands_back (given_is c.read_at-read.ensures) c.from-told.ensures c.number.ensures
