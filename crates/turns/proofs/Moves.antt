-- Turns move on within the stream. Assumes nothing.
use mathlib.Core.Path.{◌≡◌, refl}
use mathlib.Core.Bool.{Bool, true, false, ◌&&◌}
use mathlib.Core.List.{List}
use Prim.Native.Nat.{ℕ, ◌+◌, ◌≤◌, ◌<◌}
use native.Mathlib.Omega.{arith}
use lib.ListN.{length}
use Rattle.stream.specs.Records.{read_at, is_record}
use Rattle.splits.proofs.Stands.{standing}
use Rattle.splits.proofs.Splits.{both, Moves, moves}
use Rattle.state.specs.declared.State.{State}
use Rattle.session.specs.declared.Lists.{Lists}
use Rattle.turn.specs.Turns.{Turns, too_long, reads}
use Rattle.turns.specs.Filling.{Tells, none, then}

first_true : (a b : Bool) → a && b ≡ true → a ≡ true
first_true true b e = refl
first_true false b e = e

-- a turn with another behind it moves on within the stream
pub moves_on : {stream : List ℕ} {place next : ℕ} {s r : State} {k after : Lists} {line : List ℕ} {goes : Bool}
    → Turns stream place s k line r after next goes → goes ≡ true → Moves stream place next
moves_on (too_long l) e = absurd (both e refl)
moves_on {stream} {place} (reads {done} few steps) e = moves (standing stream place) (first_true (is_record (read_at stream place).item) _ e)

-- so do turns with another behind them, a byte or more each
pub tells_on : {stream : List ℕ} {place : ℕ} {s : State} {k : Lists} {turns : ℕ} {told : List ℕ} {r : State} {after : Lists} {next : ℕ} {goes : Bool}
    → Tells stream place s k turns told r after next goes → goes ≡ true → place + turns ≤ next
tells_on none e = omega arith
tells_on (then part turn) e =
    let before = tells_on part refl in
    let on = moves_on turn e in
    omega arith

pub tells_within : {stream : List ℕ} {place : ℕ} {s : State} {k : Lists} {turns : ℕ} {told : List ℕ} {r : State} {after : Lists} {next : ℕ} {goes : Bool}
    → Tells stream place s k turns told r after next goes → goes ≡ true → place ≤ length stream → next ≤ length stream
tells_within none e l = l
tells_within (then part turn) e l = (moves_on turn e).within

pub tells_moves : {stream : List ℕ} {place : ℕ} {s : State} {k : Lists} {turns : ℕ} {told : List ℕ} {r : State} {after : Lists} {next : ℕ} {goes : Bool}
    → Tells stream place s k turns told r after next goes → goes ≡ true → 0 < turns → Moves stream place next
tells_moves none e some = absurd (omega arith)
tells_moves (then part turn) e some =
    let before = tells_on part refl in
    let on = moves_on turn e in
    record { on = omega arith; within = on.within }
