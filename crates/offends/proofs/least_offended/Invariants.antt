-- `offends::least_offended` meets its contract. The invariant: `least` is the answer for the links passed, and what was
-- asked is kept. What one link more does to it stands in Laws.antt. Assumes nothing.
use Rattle.usable.specs.Standing.{table_at, net_at, dist_in}
use Rattle.asked.specs.Asked.{Kept}
use Rattle.offends.specs.Offends.{LeastOffendedOf}
use Rattle.offends.proofs.least_offended.Given as goal

abbrev pub invariant-loop-k : goal.invariant-loop-k
invariant-loop-k l = record {
  least : LeastOffendedOf (net_at l.table) (dist_in l.table.profile l.dist) l.k l.least;
  kept : Kept (table_at l.table) l.asked;
}
