-- `each::judge_each` meets its contract. The loop's invariant is that the links before `link` are passed, with the first
-- fall among them. Each answer is what decides in Laws. Assumes nothing.
use mathlib.Core.List.{[]}
use Rattle.rules.specs.Columns.{table}
use Rattle.each.proofs.Laws.{Passed}
use Rattle.each.proofs.judge_each.Given as goal

abbrev pub invariant-loop-link : goal.invariant-loop-link
invariant-loop-link l = Passed (table l.nodes 0 l.starts l.ends []) l.fall l.previous l.link
