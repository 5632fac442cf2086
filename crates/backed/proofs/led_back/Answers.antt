-- `backed::led_back` meets its contract: the links passed have marked their starts. Assumes nothing.
use mathlib.Core.Path.{◌≡◌}
use native.Mathlib.Omega.{arith}
use lib.ListN.{length}
use Rattle.usable.proofs.Reading.{start_has_row}
use Rattle.backed.proofs.Marks.{marked_none, marked_more, led}
use Rattle.backed.proofs.led_back.Goals as goal

pub loop-k-init : goal.loop-k-init
loop-k-init c = marked_none _ _

pub loop-k-preserved : goal.loop-k-preserved
loop-k-preserved c =
    marked_more _ _ c.loop-k.invariant c.loop-k-test.true (start_has_row c.args.table.now.proper c.loop-k-test.true) _
    (rw (c.start.ensures.start, c.up.ensures) at c.place-at.ensures)

pub returns : goal.returns
returns c =
    let all : c.loop-k.k ≡ length c.args.table.now.starts.now = omega arith in
    led c.all_above-above.ensures (rw all at c.loop-k.invariant)
