-- `batch::write_costs` meets its contract. The loop's invariant: writing the rows from `i` on gives the batch's column.
-- Assumes nothing.
use Rattle.batch.proofs.Laws.{Writing}
use Rattle.batch.specs.Rows.{rows_of}
use Rattle.batch.proofs.write_costs.Given as goal

abbrev pub invariant-loop-i : goal.invariant-loop-i
invariant-loop-i l = Writing (rows_of l.batch) l.initial.costs l.costs l.i
