-- A pop keeps the invariant: the least of the node's four is made anew, and then that of its eight. Assumes nothing.
use mathlib.Core.Path.{refl, subst}
use Prim.Native.Nat.{◌%◌}
use lib.ListN.{set}
use native.Mathlib.Omega.{arith}
use Rattle.queue.specs.Queue.{empty, Nearest}
use Rattle.queue.proofs.Laws.{heaped, none_waits, nearest}
use Rattle.queue.proofs.Queue.pop.Goals as goal

pub returns-then-key : goal.returns-then-key
returns-then-key c = (rw c.self.view_is at (none_waits c.self.invariant c.least_of_eight-key.ensures c.if-key.true), refl)

pub invariant_of-self : goal.invariant_of-self
invariant_of-self c = heaped c.self.invariant (omega arith) (omega arith) (λ n. absurd (n refl)) c.least_of_four.ensures c.least_of_eight.ensures

pub returns : goal.returns
returns c = subst (λ keys. Nearest keys (c.least_of_eight-key.result % 256) (set c.self.inside.keys (c.least_of_eight-key.result % 256) empty)) c.self.view_is (nearest c.self.invariant c.least_of_eight-key.ensures c.if-key.false)
