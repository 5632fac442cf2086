-- `turns::fill_lent` meets its contract: the invariant is what is told so far, and each turn tells one line more. What is left to
-- read falls. Assumes nothing.
use mathlib.Core.Path.{sym, ◌∙◌}
use borrow.Author.Tests.{leb-true}
use Rattle.turns.proofs.Laws.{filling_more, turn_less}
use Rattle.turns.proofs.fill_lent.Goals as goal

pub loop-turn-smaller : goal.loop-turn-smaller
loop-turn-smaller c = turn_less c.loop-turn-test.true c.take_turn_lent-turn.ensures

pub loop-turn-preserved : goal.loop-turn-preserved
loop-turn-preserved c =
    let room = leb-true _ _ (sym c.has_room.ensures ∙ c.if-not-has_room.false) in
    filling_more c.loop-turn.invariant c.loop-turn-test.true room c.take_turn_lent-turn.ensures
