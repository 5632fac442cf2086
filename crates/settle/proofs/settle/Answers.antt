-- `settle::settle` meets its contract. Assumes nothing.
use native.Mathlib.Omega.{arith}
use Rattle.afoot.proofs.Finds.{on_then, on_taken, comes}
use Rattle.afoot.proofs.Rounds.{chosen, lighter, settled}
use Rattle.settle.proofs.settle.Goals as goal

pub loop-u-smaller : goal.loop-u-smaller
loop-u-smaller c =
    let afoot = c.loop-u.invariant.afoot in
    let nearest = c.in-Some.ensures in
    omega (arith, c.offer_from.ensures.served.lighter, lighter afoot (chosen afoot.begun.lined nearest) nearest.is_set)

pub loop-u-preserved : goal.loop-u-preserved
loop-u-preserved c =
    let inv = c.loop-u.invariant in
    let served = c.offer_from.ensures.served in
    record { ready = c.offer_from.ensures.ready; afoot = served.afoot; goes_on = on_then inv.goes_on (on_then (on_taken c.in-Some.ensures.is_set inv.ready.found_long) served.goes_on) }

pub returns-clause-settled : goal.returns-clause-settled
returns-clause-settled c = rw c.in_default.ensures.1 (settled c.requires.level c.loop-u.invariant.afoot c.in_default.ensures.0)

pub returns-clause-comes : goal.returns-clause-comes
returns-clause-comes c = let inv = c.loop-u.invariant in comes c.requires.level (settled c.requires.level inv.afoot c.in_default.ensures.0) inv.goes_on
