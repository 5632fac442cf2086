-- One turn of a stream: the item at a place is read, does what it does, and its line is told. Assumes nothing.
use Rattle.std.specs.Prelude.{ℕ, ◌≤◌, ◌<◌, Bool, false, List, eqb, length}
use Rattle.stream.specs.Records.{read_at}
use Rattle.earlier.specs.Earlier.{earlier_of}
use Rattle.state.specs.declared.Out.{Out}
use Rattle.state.specs.declared.Out.TheVariants.{Nothing, Row, Changed, Refused}
use Rattle.state.specs.declared.State.{State}
use Rattle.state.specs.declared.Done.{Done}
use Rattle.state.specs.States.{goes_on}
use Rattle.session.specs.declared.Lists.{Lists}
use Rattle.session.specs.Holding.{Holds}
use Rattle.session.specs.Steps.{Steps}
use Rattle.lines.specs.Lines.{line_of, refusal_line}
use Rattle.words.specs.Putting.{Put}
use Rattle.turn.specs.declared.Turn.{Turn}

-- a stream for the program has no more bytes
abbrev pub most_bytes : ℕ
most_bytes = 32768

-- a link named twice
abbrev pub is_again : Out → Bool
is_again Nothing = false
is_again (Row node dist parent first) = false
is_again (Changed count) = false
is_again (Refused number) = eqb number 9

-- the line that a turn at a place tells, the state and the lists after it, the next place, and whether there is more. Of
-- a stream that is too long nothing is read.
pub data Turns (stream : List ℕ) (place : ℕ) (s : State) (k : Lists) : List ℕ → State → Lists → ℕ → Bool → Type 0 where
  too_long : most_bytes < length stream → Turns stream place s k (refusal_line 24 most_bytes) s k place false
  reads : {done : Done} {after : Lists} → length stream ≤ most_bytes → Steps s k (read_at stream place).item done after
      → Turns stream place s k (line_of done.out after.list place (earlier_of stream place (read_at stream place).item)) done.state after (read_at stream place).next
      (goes_on (read_at stream place).item done.out)

-- what a turn hands back: its line is put at the text's place, and what holds between records holds again
pub record Turned (stream : List ℕ) (place : ℕ) (s : State) (k : Lists) (before : List ℕ) (at : ℕ) (r : Turn) (after : Lists) (text : List ℕ) : Type 0 where
  pub line : List ℕ
  pub turns : Turns stream place s k line r.state after r.next r.more
  pub put : Put before at line text r.end
  pub holds : Holds r.state after
