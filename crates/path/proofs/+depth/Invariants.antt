-- The measure of `path::depth` is the node's distance, which is less at the start of its parent link. Assumes nothing.
use lib.ListN.{get_or}
use Rattle.path.proofs.+depth.Given as goal

abbrev pub decreases-depth : goal.decreases-depth
decreases-depth l = get_or l.tree.now.dist.now l.node 0
