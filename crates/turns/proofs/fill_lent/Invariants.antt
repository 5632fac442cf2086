-- `turns::fill_lent` meets its contract: the invariant is what is told so far, and each turn tells one line more. What is left to
-- read falls. Assumes nothing.
use Rattle.session.specs.Holding.{lists}
use Rattle.turns.proofs.Laws.{Filling, left}
use Rattle.turns.proofs.fill_lent.Given as goal

abbrev pub invariant-loop-turn : goal.invariant-loop-turn
invariant-loop-turn l =
    Filling l.stream l.place l.initial.turn.state (lists l.initial.starts l.initial.ends l.initial.costs l.initial.changed l.initial.newcosts l.initial.list) l.initial.text l.turn (lists l.starts l.ends l.costs l.changed l.newcosts l.list) l.text

abbrev pub decreases-loop-turn : goal.decreases-loop-turn
decreases-loop-turn l = left l.stream l.turn.next l.turn.more
