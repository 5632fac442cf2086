-- `batch::Columns::len` meets its contract: the shorter column has as many places as there are rows. Assumes nothing.
use native.Mathlib.Omega.{arith}
use Rattle.batch.proofs.Laws.{rows_long}
use Rattle.batch.proofs.Columns.len.Goals as goal

pub returns : goal.returns
returns c = omega (arith, rows_long)
