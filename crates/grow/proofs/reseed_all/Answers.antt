-- `grow::reseed_all` meets its contract: with no first links at all, every link is offered. Assumes nothing.
use mathlib.Core.Path.{refl}
use mathlib.Core.Logic.{inr}
use lib.ListN.{get_or}
use Rattle.rules.specs.Columns.{no_link}
use Rattle.basics.proofs.Arrays.{filled}
use Rattle.afoot.proofs.Heard.{heard_fewer}
use Rattle.grow.proofs.Laws.{ready, carried_all, seeded}
use Rattle.grow.proofs.Seeds.{unused_ready}
use Rattle.grow.proofs.reseed_all.Goals as goal

pub lift-requires-clause-liftable : goal.lift-requires-clause-liftable
lift-requires-clause-liftable c = rw c.requires.unused.queue (ready c.args.net.now.table.profile c.requires.level c.requires.old)

pub offer_into-requires-clause-ready : goal.offer_into-requires-clause-ready
offer_into-requires-clause-ready c = unused_ready c.requires.unused c.lift.ensures.found c.lift.ensures.asked c.lift.ensures.lifted.begun.lined

pub returns-clause-begun : goal.returns-clause-begun
returns-clause-begun c =
    let heard = heard_fewer (rw (c.lift.ensures.found, c.requires.unused.found) at c.offer_into.ensures.heard) (λ k u any. inr (refl, filled 256 no_link (get_or c.args.net.now.table.ends.now k 0))) in
    seeded (carried_all c.lift.ensures.lifted) heard.partly heard.goes_on
