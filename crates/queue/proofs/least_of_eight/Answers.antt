-- `queue::least_of_eight` meets its contract: the least of two fours. Assumes nothing.
use mathlib.Core.Path.{◌≡◌}
use Prim.Native.Nat.{◌+◌}
use native.Mathlib.Omega.{arith}
use Rattle.queue.proofs.Laws.{lesser, least_both}
use Rattle.queue.proofs.least_of_eight.Goals as goal

pub returns : goal.returns
returns c =
    let from = c.args.from in
    let eight : from + 4 + 4 ≡ from + 8 = omega arith in
    rw eight at (least_both c.least_of_four.ensures c.least_of_four-2.ensures (lesser c.min.ensures))
