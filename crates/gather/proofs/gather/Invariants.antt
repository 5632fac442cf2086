-- `gather::gather` meets its contract. The loop's invariant: both columns hold the first `i` rows of the batch, and past them
-- nothing. Assumes nothing.
use Rattle.gather.proofs.Laws.{Upto}
use Rattle.gather.proofs.gather.Given as goal

abbrev pub invariant-loop-i : goal.invariant-loop-i
invariant-loop-i l = Upto l.row-items l.i l.link l.cost
