-- The measure of `path::fill` is the node's distance, which is less at the start of its parent link. Assumes nothing.
use lib.ListN.{get_or}
use Rattle.path.proofs.+fill.Given as goal

abbrev pub decreases-fill : goal.decreases-fill
decreases-fill l = get_or l.tree.now.dist.now l.node 0
