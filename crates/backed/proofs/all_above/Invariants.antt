-- `backed::all_above` meets its contract. The invariant: what stands above the nodes passed is told. Assumes nothing.
use Rattle.backed.specs.Backed.{Above}
use Rattle.backed.proofs.all_above.Given as goal

abbrev pub invariant-loop-v : goal.invariant-loop-v
invariant-loop-v l = Above l.starts l.parent l.v l.up
