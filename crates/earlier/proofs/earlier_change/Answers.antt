-- `earlier::earlier_change` meets its contract. The loop's invariant: what is left to look at gives what all gives; the measure
-- is how far the place is. Assumes nothing.
use Rattle.stream.proofs.Laws.{given_is}
use Rattle.earlier.proofs.Laws.{looking_none, looking_end, looking_stops, looking_more}
use Rattle.earlier.proofs.earlier_change.Goals as goal

pub loop-at-init : goal.loop-at-init
loop-at-init c = looking_none _ _ _

pub returns-then-read-at : goal.returns-then-read-at
returns-then-read-at c = looking_stops c.loop-at.invariant (given_is c.read_at-read.ensures) c.loop-at-test.true c.behind-found.ensures c.if-read-at.true

pub loop-at-preserved : goal.loop-at-preserved
loop-at-preserved c = looking_more c.loop-at.invariant (given_is c.read_at-read.ensures) c.loop-at-test.true c.behind-found.ensures c.if-read-at.false

pub returns : goal.returns
returns c = looking_end c.loop-at.invariant c.loop-at-test.false
