-- A put keeps the invariant: a lower key lowers the least of its four, and that the least of its eight. Assumes nothing.
use native.Mathlib.Omega.{arith}
use Rattle.queue.proofs.Laws.{heaped_lower}
use Rattle.queue.proofs.Queue.put.Goals as goal

pub invariant_of-self : goal.invariant_of-self
invariant_of-self c = heaped_lower c.self.invariant c.requires.node (omega arith) (λ n. omega arith) (rw c.self.view_is c.requires.nearer) c.min-least.ensures c.min.ensures
