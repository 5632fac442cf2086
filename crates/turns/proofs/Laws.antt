-- Turn after turn: what they told stands at the front of the text, and what is left to read falls. Assumes nothing.
use mathlib.Core.Path.{◌≡◌, refl}
use mathlib.Core.Bool.{Bool, true, false, cond}
use mathlib.Core.List.{List, [], ◌++◌}
use Prim.Native.Nat.{ℕ, suc, ◌+◌, ◌-◌, ◌≤◌, ◌<◌}
use native.Mathlib.Omega.{arith}
use lib.ListN.{length}
use Rattle.splits.proofs.Splits.{Moves}
use Rattle.state.specs.declared.State.{State}
use Rattle.session.specs.declared.Lists.{Lists}
use Rattle.session.specs.Holding.{Holds}
use Rattle.words.specs.Putting.{Put}
use Rattle.words.proofs.Laws.{put_none, put_then, put_length}
use Rattle.lines.specs.Lines.{line_room}
use Rattle.turn.specs.declared.Turn.{Turn}
use Rattle.turn.specs.Turns.{Turned}
use Rattle.turns.specs.Filling.{Tells, none, then, Part, Filled}
use Rattle.turns.proofs.Moves.{moves_on, tells_moves}

-- what the turns told stands at the front of the text, and what holds between records holds again
record Told (stream : List ℕ) (place : ℕ) (s : State) (k : Lists) (before : List ℕ) (r : Turn) (after : Lists) (text : List ℕ) : Type 0 where
  pub turns : ℕ
  pub told : List ℕ
  pub tells : Tells stream place s k turns told r.state after r.next r.more
  pub put : Put before 0 told text r.end
  pub holds : Holds r.state after

pub tells_way : {stream : List ℕ} {place next turns : ℕ} {s r : State} {k after : Lists} {text : List ℕ} {goes way : Bool} → goes ≡ way
    → Tells stream place s k turns text r after next goes → Tells stream place s k turns text r after next way
tells_way e tells = rw e at tells

-- no turn yet, or some
pub data Filling (stream : List ℕ) (place : ℕ) (s : State) (k : Lists) (before : List ℕ) (r : Turn) (after : Lists) (text : List ℕ) : Type 0 where
  empty : r ≡ record { state = s; next = place; end = 0; more = true } → after ≡ k → text ≡ before → Holds s k → Filling stream place s k before r after text
  begun : Part stream place s k before r after text → Filling stream place s k before r after text

module _ {stream : List ℕ} {place : ℕ} {s : State} {k : Lists} {before : List ℕ} where
  told : {turn : Turn} {after : Lists} {text : List ℕ} → Filling stream place s k before turn after text → Told stream place s k before turn after text
  told (empty e f g holds) = rw (e, f, g) (record { turns = 0; told = []; tells = none; put = put_none before 0 (omega arith); holds = holds })
  told (begun b) =
      record { turns = suc b.turns; told = b.earlier ++ b.line; tells = then b.tells b.last; put = b.put; holds = b.holds }

  module _ {turn : Turn} {after : Lists} {text : List ℕ} (filling : Filling stream place s k before turn after text) where
    pub filling_more : {next : Turn} {afterwards : Lists} {more : List ℕ} → turn.more ≡ true → turn.end + line_room ≤ length text
        → Turned stream turn.next turn.state after text turn.end next afterwards more → Filling stream place s k before next afterwards more
    filling_more goes room turned =
        let now = told filling in
        begun (record {
          turns = now.turns;
          earlier = now.told;
          line = turned.line;
          state = turn.state;
          lent = after;
          at = turn.next;
          tells = tells_way goes now.tells;
          room = omega (arith, now.put.ends, put_length now.put);
          last = turned.turns;
          put = put_then now.put turned.put;
          holds = turned.holds;
        })

-- what is left to read, 0 where there is no more
abbrev pub left : List ℕ → ℕ → Bool → ℕ
left stream place goes = cond goes (length stream - place + 1) 0

left_falls : {stream : List ℕ} {place next : ℕ} (goes : Bool) → (goes ≡ true → Moves stream place next) → left stream next goes < left stream place true
left_falls true moves = let on = moves refl in omega arith
left_falls false moves = omega arith

pub turn_less : {stream : List ℕ} {place : ℕ} {s : State} {k after : Lists} {before text : List ℕ} {at : ℕ} {next : Turn} {goes : Bool} → goes ≡ true
    → Turned stream place s k before at next after text → left stream next.next next.more < left stream place goes
turn_less {next = next} e turned = rw e (left_falls next.more (moves_on turned.turns))

pub filled_less : {stream : List ℕ} {place : ℕ} {s : State} {k after : Lists} {before text : List ℕ} {turn : Turn} {goes : Bool} → goes ≡ true
    → Filled stream place s k before turn after text → left stream turn.next turn.more < left stream place goes
filled_less {turn = turn} e filled = rw e (left_falls turn.more (λ goes. tells_moves (then filled.part.tells filled.part.last) goes (omega arith)))
