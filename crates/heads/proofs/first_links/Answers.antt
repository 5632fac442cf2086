-- `heads::first_links` meets its contract: before any link is stored, every node has the number of links. Assumes nothing.
use Rattle.heads.proofs.Laws.{stored_none}
use Rattle.heads.proofs.first_links.Goals as goal

pub loop-k-init : goal.loop-k-init
loop-k-init c = stored_none _
