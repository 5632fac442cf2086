-- What the program prints for a whole stream. Assumes nothing.
use Rattle.std.specs.Prelude.{ℕ, ◌≡◌, Bool, true, false, List, [], ◌++◌, take}
use Rattle.order.specs.declared.Phase.TheVariants.{Unread}
use Rattle.state.specs.declared.State.{State}
use Rattle.session.specs.declared.Lists.{Lists}
use Rattle.session.specs.Holding.{Holds}
use Rattle.outcomes.specs.Outcomes.{CostsFit}
use Rattle.turn.specs.declared.Turn.{Turn}
use Rattle.turns.specs.Filling.{Tells, Filled}

-- what the program prints for a stream: all that is told from its first byte on, where nothing is read before it
pub record Prints (stream text : List ℕ) : Type 0 where
  pub state : State
  pub lent : Lists
  pub unread : state.phase ≡ Unread
  pub holds : Holds state lent
  pub fits : CostsFit lent
  pub turns : ℕ
  pub last : State
  pub after : Lists
  pub next : ℕ
  pub tells : Tells stream 0 state lent turns text last after next false

-- what a program has written so far that fills its text from the first byte on, again and again, and each time writes the
-- text up to its end; where it stands then, and whether there is more
pub data Writes (stream : List ℕ) (s : State) (k : Lists) : List ℕ → State → Lists → ℕ → Bool → Type 0 where
  nothing : Writes stream s k [] s k 0 true
  part : {told : List ℕ} {r : State} {after : Lists} {place : ℕ} {before text : List ℕ} {turn : Turn} {afterwards : Lists}
      → Writes stream s k told r after place true → Filled stream place r after before turn afterwards text
      → Writes stream s k (told ++ take turn.end text) turn.state afterwards turn.next turn.more

-- what it has written in the end, which is what the stream prints (proofs/Written.antt). The program keeps this for every
-- stream: so every stream prints a text
pub record Written (stream : List ℕ) : Type 0 where
  pub text : List ℕ
  pub state : State
  pub lent : Lists
  pub unread : state.phase ≡ Unread
  pub holds : Holds state lent
  pub fits : CostsFit lent
  pub last : State
  pub after : Lists
  pub next : ℕ
  pub writes : Writes stream state lent text last after next false
