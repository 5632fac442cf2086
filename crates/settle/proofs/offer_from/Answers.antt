-- `settle::offer_from` meets its contract. Assumes nothing.
use mathlib.Core.Path.{refl, sym, ◌∙◌}
use native.Mathlib.Omega.{arith}
use Rattle.offer.proofs.Laws.{inside}
use Rattle.afoot.proofs.Offers.{orderly}
use Rattle.afoot.proofs.Finds.{on_none, on_more, on_fewer}
use Rattle.afoot.proofs.Rounds.{leaves_none, leaves_from, leaves_more, leaves_all}
use Rattle.settle.proofs.offer_from.Goals as goal

pub loop-k-init : goal.loop-k-init
loop-k-init c =
    let head = c.args.net.now.heads.each c.args.u (inside c.requires.taken.partly.begun.lined c.args.u c.requires.taken.near) in
    record { ready = c.requires.ready; leaves = leaves_none head c.requires.taken; goes_on = on_fewer (λ j ok below e. head.before j (below e) e) (on_none c.requires.ready.found_long) }

pub returns-then-start-u-clause-served : goal.returns-then-start-u-clause-served
returns-then-start-u-clause-served c =
    let net = c.args.net.now in
    let head = net.heads.each c.args.u (inside c.requires.taken.partly.begun.lined c.args.u c.requires.taken.near) in
    leaves_all head (orderly net.table.profile net.table.proper) c.loop-k.invariant.leaves (λ l e. c.if-start-u.true (c.start.ensures.start ∙ e)) refl c.loop-k.invariant.goes_on

pub loop-k-preserved : goal.loop-k-preserved
loop-k-preserved c =
    let net = c.args.net.now in
    let head = net.heads.each c.args.u (inside c.requires.taken.partly.begun.lined c.args.u c.requires.taken.near) in
    let ordered = orderly net.table.profile net.table.proper in
    let inv = c.loop-k.invariant in
    let leaves = sym c.start.ensures.start ∙ c.if-start-u.false in
    let from = leaves_from inv.leaves leaves in
    let told = c.offer.ensures in
    let offered = rw c.cost.ensures at told.offered in
    record {
      ready = told.ready;
      leaves = leaves_more head ordered inv.leaves c.loop-k-test.true leaves told.ready.lined offered;
      goes_on = on_more ordered inv.leaves.partly c.loop-k-test.true from told.ready.lined offered inv.goes_on.long (rw c.cost.ensures at told.noted) inv.goes_on (λ j below d e. omega (arith, below e)) (rw c.cost.ensures at told.lowered);
    }

pub returns-clause-served : goal.returns-clause-served
returns-clause-served c =
    let net = c.args.net.now in
    let head = net.heads.each c.args.u (inside c.requires.taken.partly.begun.lined c.args.u c.requires.taken.near) in
    leaves_all head (orderly net.table.profile net.table.proper) c.loop-k.invariant.leaves (λ l. absurd (omega arith)) refl c.loop-k.invariant.goes_on
