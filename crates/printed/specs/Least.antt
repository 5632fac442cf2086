-- What the N lines of a stream's text show. Assumes nothing.
use Rattle.std.specs.Prelude.{ℕ, ◌≡◌, List, [], ◌∷◌, ◌++◌}
use Rattle.rules.specs.Columns.{rows_of}
use Rattle.tree.specs.Value.{arrays_of}
use Rattle.stream.specs.declared.Item.{Item}
use Rattle.stream.specs.declared.Item.TheVariants.{Ask}
use Rattle.stream.specs.Records.{read_at}
use Rattle.state.specs.declared.State.{State}
use Rattle.state.specs.declared.Done.{Done}
use Rattle.session.specs.declared.Lists.{Lists}
use Rattle.outcomes.specs.Outcomes.{Led, Answers}
use Rattle.lines.specs.Lines.{row_line, changed_line, refusal_line, again_line}

-- what was read from a place on, the latest first, and the place behind it
pub data ReadFrom (stream : List ℕ) (start : ℕ) : List Item → ℕ → Type 0 where
  none : ReadFrom stream start [] start
  next : {items : List Item} {place : ℕ} → ReadFrom stream start items place → ReadFrom stream start ((read_at stream place).item ∷ items) (read_at stream place).next

-- the line of an ASK: the records read before it have led to the links, the changes applied so far and the tree that
-- stands, and the line shows the asked node's row in that tree, whose distances are the least sums over the links then
-- usable
pub record LeastLine (stream : List ℕ) (from : State) (lent : Lists) (line : List ℕ) : Type 0 where
  pub items : List Item
  pub place : ℕ
  pub read : ReadFrom stream 0 items place
  pub state : State
  pub lists : Lists
  pub led : Led from lent items state lists
  pub node : ℕ
  pub asked : (read_at stream place).item ≡ Ask node
  pub done : Done
  pub answers : Answers lists node done
  pub shown : line
      ≡ row_line node ((rows_of (arrays_of done.state.tree)).dist node) ((rows_of (arrays_of done.state.tree)).parent node)
      ((rows_of (arrays_of done.state.tree)).first node)

-- no line, an A line or an R line
pub data OtherLine : List ℕ → Type 0 where
  silent : OtherLine []
  changed : (count : ℕ) (list : List ℕ) → OtherLine (changed_line count list)
  refused : (number place : ℕ) → OtherLine (refusal_line number place)
  again : (place earlier : ℕ) → OtherLine (again_line place earlier)

-- a text of lines, of which each N line shows the least sum
pub data LeastText (stream : List ℕ) (from : State) (lent : Lists) : List ℕ → Type 0 where
  none : LeastText stream from lent []
  row : {text line : List ℕ} → LeastText stream from lent text → LeastLine stream from lent line → LeastText stream from lent (text ++ line)
  other : {text line : List ℕ} → LeastText stream from lent text → OtherLine line → LeastText stream from lent (text ++ line)
