-- `alone::first_bad_row` meets its contract. The invariant: the rows passed are right. Assumes nothing.
use Rattle.rules.specs.Columns.{rows_in}
use Rattle.rules.specs.Lent.{arrays_of}
use Rattle.usable.specs.Standing.{net_at}
use Rattle.alone.specs.Alone.{RightBefore}
use Rattle.alone.proofs.first_bad_row.Given as goal

abbrev pub invariant-loop-v : goal.invariant-loop-v
invariant-loop-v l = RightBefore (net_at l.table) (rows_in l.table.profile (arrays_of l.tree)) l.v
