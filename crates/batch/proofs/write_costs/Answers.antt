-- `batch::write_costs` meets its contract. The loop's invariant: writing the rows from `i` on gives the batch's column.
-- Assumes nothing.
use native.Mathlib.Omega.{arith}
use Rattle.batch.proofs.Laws.{named_row, writing_more, writing_end}
use Rattle.batch.proofs.write_costs.Goals as goal

pub bounds-costs-row : goal.bounds-costs-row
bounds-costs-row c = omega (arith, named_row c.args.batch.now c.row-row.ensures (omega arith) c.requires)

pub loop-i-preserved : goal.loop-i-preserved
loop-i-preserved c = writing_more c.args.batch.now c.row-row.ensures (omega arith) c.loop-i.invariant

pub returns : goal.returns
returns c = writing_end c.loop-i.invariant (omega arith)
