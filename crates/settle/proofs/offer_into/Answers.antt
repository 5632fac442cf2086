-- `settle::offer_into` meets its contract. Assumes nothing.
use mathlib.Core.Path.{◌∙◌}
use native.Mathlib.Omega.{arith}
use mathlib.Core.Logic.{◌≢◌}
use lib.ListN.{get_or}
use Rattle.rules.specs.Columns.{no_link}
use Rattle.rules.proofs.Logic.{get_d_any}
use Rattle.afoot.proofs.Offers.{orderly}
use Rattle.afoot.proofs.Heard.{heard_fewer, heard_more, calm_none, calm_only, into_none, into_more, into_past, into_all}
use Rattle.settle.proofs.offer_into.Goals.{then-first-end, else-first-end}
use Rattle.settle.proofs.offer_into.Goals as goal

pub returns-then-not-lifted-clause-heard : goal.returns-then-not-lifted-clause-heard
returns-then-not-lifted-clause-heard c = heard_fewer (calm_none c.requires.seeded c.requires.ready.found_long) (calm_only _ _ _ c.args.first.now c.if-not-lifted.true)

pub loop-k-init : goal.loop-k-init
loop-k-init c = record { ready = c.requires.ready; heard = heard_fewer (calm_none c.requires.seeded c.requires.ready.found_long) (into_none _ _ _ c.args.first.now) }

pub loop-k-preserved : goal.loop-k-preserved
loop-k-preserved c =
    let net = c.args.net.now in
    let inv = c.loop-k.invariant in
    elim c.if-first-end.branch [
      | then-first-end w ↦
          let told = w.offer_link.ensures in
          rw w.search-is (record { ready = told.ready; heard = heard_more inv.heard (into_more _ _ _ c.args.first.now c.loop-k.k) (orderly net.table.profile net.table.proper) c.loop-k-test.true told.ready.lined told.told })
      | else-first-end w ↦
          let other : get_or c.args.first.now c.end.result 0 ≢ no_link = w.if-first-end.false in
          let some = get_d_any c.args.first.now c.end.result 0 no_link (omega (arith, c.end.ensures.node)) in
          rw w.search-is (record { ready = inv.ready; heard = heard_fewer inv.heard (into_past _ _ _ c.args.first.now c.loop-k.k (λ e. other (some ∙ rw c.end.ensures.end e))) })
    ]

pub returns-clause-heard : goal.returns-clause-heard
returns-clause-heard c = heard_fewer c.loop-k.invariant.heard (into_all _ _ _ c.args.first.now c.loop-k.k c.loop-k-test.false)
