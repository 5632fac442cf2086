-- `batch::judge_rows` meets its contract. The loop's invariant: the rows before `row` are good, and threaded. Each answer is
-- what decides in Laws. Assumes nothing.
use native.Mathlib.Omega.{arith}
use Rattle.batch.proofs.Laws.{none_bad, no_such_link, named_again, passed_more, rows_long}
use Rattle.batch.proofs.judge_rows.Goals as goal

pub returns-then-links-link : goal.returns-then-links-link
returns-then-links-link c = no_such_link c.loop-row.invariant (omega arith) (rw c.row-link.ensures at c.if-links-link.true)

pub returns-in-Some : goal.returns-in-Some
returns-in-Some c =
    let earlier = rw c.row-link.ensures at c.in-Some.ensures in
    named_again c.loop-row.invariant (omega arith) (rw c.row-link.ensures at c.if-links-link.false) earlier.1 earlier.0

pub add_row-requires-clause-is_row : goal.add_row-requires-clause-is_row
add_row-requires-clause-is_row c = omega (arith, rows_long)

pub loop-row-preserved : goal.loop-row-preserved
loop-row-preserved c =
    passed_more c.loop-row.invariant (omega arith) (rw c.row-link.ensures at c.if-links-link.false) (rw c.row-link.ensures at c.in_default.ensures) c.add_row.ensures

pub returns : goal.returns
returns c = none_bad c.loop-row.invariant (omega arith)
