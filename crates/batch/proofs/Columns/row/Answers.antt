-- `batch::Columns::row` meets its contract: a row is a place of both columns. Assumes nothing.
use native.Mathlib.Omega.{arith}
use Rattle.batch.proofs.Laws.{rows_long}
use Rattle.batch.proofs.Columns.row.Goals as goal

pub offset_bounds-self-place : goal.offset_bounds-self-place
offset_bounds-self-place c = omega (arith, rows_long)

pub bounds-self-place : goal.bounds-self-place
bounds-self-place c = omega (arith, rows_long)

pub offset_bounds-self-place-2 : goal.offset_bounds-self-place-2
offset_bounds-self-place-2 c = omega (arith, rows_long)

pub bounds-self-place-2 : goal.bounds-self-place-2
bounds-self-place-2 c = omega (arith, rows_long)
