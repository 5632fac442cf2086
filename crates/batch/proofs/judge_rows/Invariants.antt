-- `batch::judge_rows` meets its contract. The loop's invariant: the rows before `row` are good, and threaded. Each answer is
-- what decides in Laws. Assumes nothing.
use Rattle.batch.proofs.Laws.{Passed}
use Rattle.batch.proofs.judge_rows.Given as goal

abbrev pub invariant-loop-row : goal.invariant-loop-row
invariant-loop-row l = Passed l.links l.batch l.threads l.row
