-- `threads::Threads::earliest_row` meets its contract. The loop's invariant: no row from `at` on names the link, and the one
-- before it is on the link's thread; `at` falls at each turn. Assumes nothing.
use mathlib.Core.Path.{◌≡◌}
use Prim.Native.Nat.{suc, ◌-◌}
use native.Mathlib.Omega.{arith}
use Rattle.threads.proofs.Laws.{sought_last, sought_found, sought_on, sought_none}
use Rattle.threads.proofs.Threads.earliest_row.Goals as goal

pub loop-at-init : goal.loop-at-init
loop-at-init c = rw c.thread_of-thread.ensures (sought_last c.requires)

pub returns-then-changed-row : goal.returns-then-changed-row
returns-then-changed-row c =
    let same : c.loop-at.at ≡ suc (c.loop-at.at - 1) = omega arith in
    sought_found c.requires (rw same at c.loop-at.invariant) c.if-changed-row.true

pub loop-at-preserved : goal.loop-at-preserved
loop-at-preserved c =
    let same : c.loop-at.at ≡ suc (c.loop-at.at - 1) = omega arith in
    sought_on c.requires (rw same at c.loop-at.invariant) c.if-changed-row.false

pub loop-at-smaller : goal.loop-at-smaller
loop-at-smaller c = omega (arith, (c.requires.earlier (c.loop-at.at - 1) (omega arith)).within)

pub returns : goal.returns
returns c = sought_none c.requires c.loop-at.invariant (omega arith)
