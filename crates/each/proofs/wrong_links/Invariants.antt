-- `each::wrong_links` meets its contract. The loop's invariant is that the links before `i` are counted. Assumes nothing.
use mathlib.Core.List.{[]}
use Rattle.rules.specs.Columns.{table}
use Rattle.each.proofs.Laws.{Counted}
use Rattle.each.proofs.wrong_links.Given as goal

abbrev pub invariant-loop-i : goal.invariant-loop-i
invariant-loop-i l = Counted (table l.nodes 0 l.starts l.ends []) l.count l.previous l.i
