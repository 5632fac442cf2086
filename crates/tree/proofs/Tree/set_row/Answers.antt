-- `tree::Tree::set_row` meets its contract, with the code's test as the rule's. Assumes nothing.
use borrow.Author.Tests.{lt-ltb, le-ltb}
use Rattle.tree.proofs.Tree.set_row.Goals as goal

pub returns-then-node-lt256 : goal.returns-then-node-lt256
returns-then-node-lt256 c = rw (lt-ltb _ 256 c.if-node-lt256.true)

pub returns-else-node-lt256 : goal.returns-else-node-lt256
returns-else-node-lt256 c = rw (le-ltb _ 256 c.if-node-lt256.false)
