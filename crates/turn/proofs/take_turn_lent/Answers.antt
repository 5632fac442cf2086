-- `turn::take_turn_lent` meets its contract: it goes one of the two ways of a turn. Assumes nothing.
use Rattle.stream.proofs.Laws.{given_is}
use Rattle.turn.proofs.Laws.{entries, turned_too_long, turned_reads}
use Rattle.turn.proofs.take_turn_lent.Goals as goal

pub returns-then-stream-gt-MOST_BYTES : goal.returns-then-stream-gt-MOST_BYTES
returns-then-stream-gt-MOST_BYTES c = turned_too_long c.if-stream-gt-MOST_BYTES.true c.requires.holds c.put_line-end.ensures

pub put_line-end-requires-2 : goal.put_line-end-requires-2
put_line-end-requires-2 c =
    let step = c.step_lent-done.ensures in
    let few = entries step.0 step.1 in
    record { room = c.requires.room; few = few.0; listed = few.1 }

pub returns : goal.returns
returns c =
    let step = c.step_lent-done.ensures in
    turned_reads c.if-stream-gt-MOST_BYTES.false (given_is c.read_at-read.ensures) step.0 step.1 c.goes_on.ensures c.earlier-before.ensures c.put_line-end-2.ensures
