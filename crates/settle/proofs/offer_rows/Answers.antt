-- `settle::offer_rows` meets its contract. Assumes nothing.
use Rattle.afoot.proofs.Heard.{heard_none, heard_fewer, heard_then, untouched_all}
use Rattle.settle.proofs.offer_rows.Goals as goal

pub loop-i-init : goal.loop-i-init
loop-i-init c = record { ready = c.requires.ready; heard = heard_none c.requires.partly c.requires.ready.found_long }

pub loop-i-preserved : goal.loop-i-preserved
loop-i-preserved c = record { ready = c.offer_row.ensures.ready; heard = heard_then c.loop-i.invariant.heard c.offer_row.ensures.heard }

pub returns-clause-heard : goal.returns-clause-heard
returns-clause-heard c = heard_fewer c.loop-i.invariant.heard (λ k u any. untouched_all _ c.args.changed.now c.loop-i.i c.loop-i-test.false k)
