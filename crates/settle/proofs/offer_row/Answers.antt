-- `settle::offer_row` meets its contract. Assumes nothing.
use mathlib.Core.Path.{◌≡◌, sym, ◌∙◌}
use mathlib.Core.Logic.{◌≢◌}
use native.Mathlib.Omega.{arith}
use lib.ListN.{get_or}
use Rattle.usable.specs.Standing.{net_at}
use Rattle.afoot.proofs.Offers.{orderly}
use Rattle.afoot.proofs.Heard.{heard_none, heard_fewer, heard_more, back_more, back_past}
use Rattle.settle.proofs.Row.{own_done, row_done}
use Rattle.settle.proofs.offer_row.Goals.{then-end-start, else-end-start}
use Rattle.settle.proofs.offer_row.Goals as goal

pub loop-k-init : goal.loop-k-init
loop-k-init c =
    let net = c.args.net.now in
    let told = c.offer_link.ensures in
    let own = own_done net.table net.heads c.args.changed.now c.args.i (c.requires.naming.named c.args.i c.requires.row) c.requires.partly c.requires.ready.found_long told.ready.lined told.told in
    rw c.end-end.ensures.end (record { ready = told.ready; heard = heard_none own.partly own.goes_on.long })

pub loop-k-preserved : goal.loop-k-preserved
loop-k-preserved c =
    let net = c.args.net.now in
    let inv = c.loop-k.invariant in
    elim c.if-end-start.branch [
      | then-end-start w ↦
          let told = w.offer_link-then-end-start.ensures in
          rw w.search-is (record { ready = told.ready; heard = heard_more inv.heard (back_more _ c.args.changed.now c.args.i c.loop-k.k) (orderly net.table.profile net.table.proper) c.loop-k-test.true told.ready.lined told.told })
      | else-end-start w ↦
          let elsewhere : c.end.result ≢ c.start-start.result = w.if-end-start.false in
          let other = λ (e : (net_at net.table).end c.loop-k.k ≡ (net_at net.table).start (get_or c.args.changed.now c.args.i 0)). elsewhere (c.end.ensures.end ∙ e ∙ sym c.start-start.ensures.start) in
          rw w.search-is (record { ready = inv.ready; heard = heard_fewer inv.heard (back_past _ c.args.changed.now c.args.i c.loop-k.k other) })
    ]

pub returns-then-start-end-clause-heard : goal.returns-then-start-end-clause-heard
returns-then-start-end-clause-heard c =
    let net = c.args.net.now in
    let told = c.offer_link.ensures in
    row_done net.table net.heads c.args.changed.now c.args.i (c.requires.naming.named c.args.i c.requires.row) c.requires.partly c.requires.ready.found_long told.ready.lined told.told
    (rw c.end-end.ensures.end at c.loop-k.auto.k) (λ l e. c.if-start-end.true (c.start.ensures.start ∙ e ∙ sym c.end-end.ensures.end)) (rw c.end-end.ensures.end at c.loop-k.invariant.heard)

pub returns-clause-heard : goal.returns-clause-heard
returns-clause-heard c =
    let net = c.args.net.now in
    let told = c.offer_link.ensures in
    row_done net.table net.heads c.args.changed.now c.args.i (c.requires.naming.named c.args.i c.requires.row) c.requires.partly c.requires.ready.found_long told.ready.lined told.told
    (rw c.end-end.ensures.end at c.loop-k.auto.k) (λ l. absurd (omega arith)) (rw c.end-end.ensures.end at c.loop-k.invariant.heard)
