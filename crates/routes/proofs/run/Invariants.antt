-- `routes::run` meets its contract: the invariant is what was handed to `write` so far. What is left to read falls.
-- Assumes nothing.
use Rattle.turns.proofs.Laws.{left}
use Rattle.printed.proofs.Written.{Writing}
use Rattle.routes.proofs.run.Given as goal

abbrev pub invariant-loop-turn : goal.invariant-loop-turn
invariant-loop-turn l = Writing l.stream l.turn.state l.lists l.turn.next l.turn.more

abbrev pub decreases-loop-turn : goal.decreases-loop-turn
decreases-loop-turn l = left l.stream l.turn.next l.turn.more
