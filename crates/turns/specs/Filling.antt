-- Turn after turn, from a place of a stream on, and a text filled with their lines. Assumes nothing.
use Rattle.std.specs.Prelude.{ℕ, zero, suc, ◌+◌, ◌≤◌, ◌<◌, ◌≡◌, Bool, true, List, [], ◌++◌, length}
use Rattle.state.specs.declared.State.{State}
use Rattle.session.specs.declared.Lists.{Lists}
use Rattle.session.specs.Holding.{Holds}
use Rattle.lines.specs.Lines.{line_room}
use Rattle.words.specs.Putting.{Put}
use Rattle.turn.specs.declared.Turn.{Turn}
use Rattle.turn.specs.Turns.{Turns}

-- so many turns from a place on tell a text, and lead to a state, lists and a place; and whether there is more
pub data Tells (stream : List ℕ) (place : ℕ) (s : State) (k : Lists) : ℕ → List ℕ → State → Lists → ℕ → Bool → Type 0 where
  none : Tells stream place s k zero [] s k place true
  then : {next further turns : ℕ} {r last : State} {after afterwards : Lists} {told line : List ℕ} {goes : Bool}
      → Tells stream place s k turns told r after next true → Turns stream next r after line last afterwards further goes
      → Tells stream place s k (suc turns) (told ++ line) last afterwards further goes

-- all turns but the last told what stands at the front of the text, and left room for any line; behind it stands the last
-- turn's line
pub record Part (stream : List ℕ) (place : ℕ) (s : State) (k : Lists) (before : List ℕ) (r : Turn) (after : Lists) (text : List ℕ) : Type 0 where
  pub turns : ℕ
  pub earlier : List ℕ
  pub line : List ℕ
  pub state : State
  pub lent : Lists
  pub at : ℕ
  pub tells : Tells stream place s k turns earlier state lent at true
  pub room : length earlier + line_room ≤ length before
  pub last : Turns stream at state lent line r.state after r.next r.more
  pub put : Put before 0 (earlier ++ line) text r.end
  pub holds : Holds r.state after

-- and then there is no more, or no such room
pub record Filled (stream : List ℕ) (place : ℕ) (s : State) (k : Lists) (before : List ℕ) (r : Turn) (after : Lists) (text : List ℕ) : Type 0 where
  pub part : Part stream place s k before r after text
  pub full : r.more ≡ true → length before < r.end + line_room
