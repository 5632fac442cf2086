-- `offends::bars` meets its contract. The invariant: the bars of the nodes passed stand. Assumes nothing.
use Rattle.offends.specs.Offends.{Bars}
use Rattle.offends.proofs.bars.Given as goal

abbrev pub invariant-loop-v : goal.invariant-loop-v
invariant-loop-v l = Bars l.profile.mark l.profile.ceiling l.dist l.v l.bars
