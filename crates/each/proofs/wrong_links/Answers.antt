-- `each::wrong_links` meets its contract. The loop's invariant is that the links before `i` are counted. Assumes nothing.
use native.Mathlib.Omega.{arith}
use Rattle.rules.specs.Refusals.{wrong_ends_at}
use Rattle.each.proofs.Laws.{counted_none, counted_more, none_counted}
use Rattle.each.proofs.wrong_links.Goals as goal

pub loop-i-init : goal.loop-i-init
loop-i-init c = counted_none _

pub overflow_add-count : goal.overflow_add-count
unfolding wrong_ends_at
overflow_add-count c = omega (arith, (counted_more c.loop-i.invariant c.loop-i-test.true c.fault-count.ensures).few)

pub loop-i-preserved : goal.loop-i-preserved
unfolding wrong_ends_at
loop-i-preserved c = counted_more c.loop-i.invariant c.loop-i-test.true c.fault-count.ensures

pub returns : goal.returns
returns c none = none_counted c.loop-i.invariant c.loop-i-test.false none
