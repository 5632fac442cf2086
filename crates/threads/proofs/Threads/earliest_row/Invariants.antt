-- `threads::Threads::earliest_row` meets its contract. The loop's invariant: no row from `at` on names the link, and the one
-- before it is on the link's thread; `at` falls at each turn. Assumes nothing.
use Rattle.threads.proofs.Laws.{Sought}
use Rattle.threads.proofs.Threads.earliest_row.Given as goal

abbrev pub invariant-loop-at : goal.invariant-loop-at
invariant-loop-at l = Sought l.changed l.rows l.link l.at

abbrev pub decreases-loop-at : goal.decreases-loop-at
decreases-loop-at l = l.at
