-- Costs are 16-bit numbers from the stream's bytes on, so every ASK's line shows the least sum over the links then usable.
-- Assumes nothing.
use mathlib.Core.Path.{◌≡◌, refl}
use mathlib.Core.Bool.{Bool, true, false}
use mathlib.Core.List.{List, [], ◌∷◌}
use Prim.Native.Nat.{ℕ, zero, suc, ◌+◌, ◌≤◌, ◌<◌}
use native.Mathlib.Omega.{arith}
use lib.ListN.{get_or, replicate}
use Rattle.rules.specs.Columns.{most_cost}
use Rattle.rules.specs.Demands.{SixteenBit}
use Rattle.stream.specs.declared.Item.{Item}
use Rattle.stream.specs.declared.Item.TheVariants.{Ask}
use Rattle.stream.specs.declared.Read.{Read}
use Rattle.stream.specs.Records.{read_at}
use Rattle.splits.specs.Encoding.{AreBytes}
use Rattle.splits.proofs.Stands.{StandsStill, at_the_end, unknown, cut, a_network, a_link, a_change, an_apply, an_ask, standing}
use Rattle.splits.proofs.Splits.{both}
use Rattle.splits.proofs.Encoded.{number_fits}
use Rattle.order.specs.declared.Phase.TheVariants.{Unread}
use Rattle.order.specs.Order.{is_unread}
use Rattle.state.specs.declared.State.{State}
use Rattle.state.specs.declared.Done.{Done}
use Rattle.session.specs.declared.Lists.{Lists}
use Rattle.session.specs.Steps.{Steps}
use Rattle.outcomes.specs.Outcomes.{Led, none, next, Answers, CostFits, CostsFit}
use Rattle.outcomes.proofs.Costs.{steps_fit}
use Rattle.outcomes.proofs.Led.{asks_given}
use Rattle.turn.specs.Turns.{Turns, too_long, reads}
use Rattle.turns.specs.Filling.{Tells, none as no_turn, then}
use Rattle.printed.specs.Least.{ReadFrom}

-- what stands in a stream of bytes has a 16-bit cost, if any
read_fits : {stream : List ℕ} → AreBytes stream → {place : ℕ} {read : Read} → StandsStill stream place read → CostFits read.item
read_fits bytes (at_the_end l) = tt
read_fits bytes (unknown l n) = tt
read_fits bytes (cut l k s) = tt
read_fits bytes (a_network k l) = tt
read_fits bytes {place} (a_link k l) = omega (arith, number_fits bytes (place + 5))
read_fits bytes {place} (a_change k l) = omega (arith, number_fits bytes (place + 3))
read_fits bytes (an_apply k l) = tt
read_fits bytes (an_ask k l) = tt

turn_fits : {stream : List ℕ} {place next : ℕ} {s r : State} {k after : Lists} {line : List ℕ} {goes : Bool} → AreBytes stream → CostsFit k
    → Turns stream place s k line r after next goes → CostsFit after
turn_fits bytes f (too_long l) = f
turn_fits {stream} {place} bytes f (reads few steps) = steps_fit f (read_fits bytes (standing stream place)) steps

-- through every turn
pub tells_fit : {stream : List ℕ} {place : ℕ} {s : State} {k : Lists} {turns : ℕ} {told : List ℕ} {r : State} {after : Lists} {next : ℕ} {goes : Bool} → AreBytes stream → CostsFit k
    → Tells stream place s k turns told r after next goes → CostsFit after
tells_fit bytes f no_turn = f
tells_fit bytes f (then before turn) = turn_fits bytes (tells_fit bytes f before) turn

-- what was read, and that it led there
pub record LedTo (stream : List ℕ) (start : ℕ) (from : State) (lent : Lists) (s : State) (k : Lists) (place : ℕ) : Type 0 where
  pub items : List Item
  pub read : ReadFrom stream start items place
  pub led : Led from lent items s k

-- turns with more behind them are records
pub tells_led : {stream : List ℕ} {place : ℕ} {s : State} {k : Lists} {turns : ℕ} {told : List ℕ} {r : State} {after : Lists} {after_place : ℕ} {goes : Bool} → Tells stream place s k turns told r after after_place goes
    → goes ≡ true → LedTo stream place s k r after after_place
tells_led no_turn e = record { items = []; read = ReadFrom.none; led = none }
tells_led (then before (too_long l)) e = absurd (both e refl)
tells_led {stream} (then {next = at} before (reads few steps)) e =
    let led = tells_led before refl in
    record { items = (read_at stream at).item ∷ led.items; read = ReadFrom.next led.read; led = next led.led steps }

-- an ASK in order, wherever it stands in a stream of bytes, tells the row of the tree that the rules give for the links and the
-- changes applied so far; its distances are the least sums over the links then usable
pub asks_least : {stream : List ℕ} {place turns node : ℕ} {s r : State} {k after : Lists} {told : List ℕ} {d : Done} {l : Lists} → AreBytes stream
    → s.phase ≡ Unread → CostsFit k → Tells stream 0 s k turns told r after place true → Steps r after (Ask node) d l
    → is_unread r.phase ≡ false → node < r.nodes → Answers after node d
asks_least bytes unread f tells steps begun inside = asks_given unread (tells_led tells refl).led (tells_fit bytes f tells).costs steps begun inside

-- a column of zeros is one of 16-bit numbers
pub zeros_fit : (n : ℕ) → SixteenBit (replicate n 0)
zeros_fit n = record { narrow = at n }
  where
    at : (n k : ℕ) → get_or (replicate n 0) k 0 ≤ most_cost
    at zero zero = omega arith
    at zero (suc k) = omega arith
    at (suc n) zero = omega arith
    at (suc n) (suc k) = at n k
