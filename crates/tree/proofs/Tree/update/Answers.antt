-- `tree::Tree::update` meets its contract: what an update does with the rows that were gathered of a batch it does with the
-- batch. Assumes nothing.
use Rattle.gather.proofs.Cut.{gathered_updated}
use Rattle.tree.proofs.Tree.update.Goals as goal

pub returns : goal.returns
returns c = gathered_updated c.gather-rows.ensures (rw c.columns.ensures at c.update_columns.ensures)
