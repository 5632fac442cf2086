-- `routes::run` meets its contract: the invariant is what was handed to `write` so far. What is left to read falls.
-- Assumes nothing.
use mathlib.Core.Path.{ap}
use Prim.Native.Nat.{ℕ}
use lib.ListN.{length-replicate}
use Rattle.state.specs.declared.State.{State}
use Rattle.session.specs.Holding.{unread}
use Rattle.turns.proofs.Laws.{filled_less}
use Rattle.printed.proofs.Costs.{zeros_fit}
use Rattle.printed.proofs.Written.{writing_none, writing_more}
use Rattle.routes.proofs.run.Goals as goal

pub loop-turn-init : goal.loop-turn-init
loop-turn-init c =
    let phase = ap (λ (x : State). x.phase) c.start.ensures in
    writing_none phase
    (unread phase
    (record { starts_long = length-replicate {A = ℕ} 4096 0; ends_long = length-replicate {A = ℕ} 4096 0; costs_long = length-replicate {A = ℕ} 4096 0 })
    (record { changed_long = length-replicate {A = ℕ} 256 0; newcosts_long = length-replicate {A = ℕ} 256 0; list_long = length-replicate {A = ℕ} 256 0 }))
    (record { costs = zeros_fit 4096; newcosts = zeros_fit 256 })

pub loop-turn-smaller : goal.loop-turn-smaller
loop-turn-smaller c = filled_less c.loop-turn-test.true c.fill-turn.ensures

pub loop-turn-preserved : goal.loop-turn-preserved
loop-turn-preserved c = writing_more c.loop-turn.invariant c.loop-turn-test.true c.fill-turn.ensures
