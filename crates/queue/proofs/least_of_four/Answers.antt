-- `queue::least_of_four` meets its contract: the least of two pairs. Assumes nothing.
use mathlib.Core.Path.{refl}
use Prim.Native.Nat.{◌+◌}
use native.Mathlib.Omega.{arith}
use Rattle.queue.proofs.Laws.{lesser, least_one, least_both}
use Rattle.queue.proofs.least_of_four.Goals as goal

pub returns : goal.returns
returns c =
    let keys = c.args.keys.now in
    let from = c.args.from in
    least_both
    (least_both (least_one keys from {to = from + 1} refl) (least_one keys (from + 1) {to = from + 2} (omega arith)) (lesser c.min.ensures))
    (least_both (least_one keys (from + 2) {to = from + 3} (omega arith)) (least_one keys (from + 3) (omega arith)) (lesser c.min-2.ensures))
    (lesser c.min-3.ensures)
