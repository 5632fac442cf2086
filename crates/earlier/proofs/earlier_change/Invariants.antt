-- `earlier::earlier_change` meets its contract. The loop's invariant: what is left to look at gives what all gives; the measure
-- is how far the place is. Assumes nothing.
use Prim.Native.Nat.{◌-◌}
use Rattle.earlier.proofs.Laws.{Looking}
use Rattle.earlier.proofs.earlier_change.Given as goal

abbrev pub invariant-loop-at : goal.invariant-loop-at
invariant-loop-at l = Looking l.stream l.place l.link l.at l.found

abbrev pub decreases-loop-at : goal.decreases-loop-at
decreases-loop-at l = l.place - l.at
