-- `offends::first_offering` meets its contract. The invariant: none of the links passed offends. Assumes nothing.
use Rattle.usable.specs.Standing.{table_at}
use Rattle.offends.specs.Offends.{Calm}
use Rattle.offends.proofs.first_offering.Given as goal

abbrev pub invariant-loop-k : goal.invariant-loop-k
invariant-loop-k l = Calm (table_at l.table) l.bars l.k
