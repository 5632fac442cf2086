-- What is kept between records, and what becomes of it. Assumes nothing.
use Rattle.std.specs.Prelude.{Bool, true, false, not, ◌&&◌, cond, List, ℕ, ◌+◌, leb, take}
use Rattle.rules.specs.Columns.{Table, table, rows_of, empty_tree}
use Rattle.rules.specs.Refusals.{only, Verdict, accepted, refused}
use Rattle.rules.specs.declared.Change.{Change}
use Rattle.batch.specs.Rows.{rows_of_columns}
use Rattle.stream.specs.declared.Item.{Item}
use Rattle.stream.specs.Records.{is_record}
use Rattle.order.specs.declared.Phase.TheVariants.{Unread, Linking, Routing}
use Rattle.tree.specs.declared.Tree.{Tree}
use Rattle.tree.specs.Value.{arrays_of}
use Rattle.state.specs.declared.Out.{Out}
use Rattle.state.specs.declared.Out.TheVariants.{Nothing, Row, Changed, Refused}
use Rattle.state.specs.declared.State.{State}
use Rattle.state.specs.declared.Done.{Done}

-- nothing read yet
abbrev pub unread : State
unread = record {
  phase = Unread;
  nodes = 0;
  root = 0;
  links = 0;
  rows = 0;
  tree = record { dist = empty_tree.dist; parent = empty_tree.parent; first = empty_tree.first };
}

-- the links read so far stand at the front of the lent columns
abbrev pub table_of : State → List ℕ → List ℕ → List ℕ → Table
table_of s starts ends costs =
    table s.nodes s.root (take s.links starts) (take s.links ends) (take s.links costs)

-- the rows that wait for APPLY stand at the front of the lent rows
abbrev pub waiting : State → List ℕ → List ℕ → List Change
waiting s changed newcosts = rows_of_columns (take s.rows changed) (take s.rows newcosts)

-- a refusal leaves the state as it is
abbrev pub refusing : State → ℕ → Done
refusing s number = record { state = s; out = Refused number }

-- NETWORK
abbrev pub networked : Verdict → State → ℕ → ℕ → Done
networked accepted s nodes root =
    record { state = record { phase = Linking; nodes = nodes; root = root; links = 0; rows = 0; tree = s.tree }; out = Nothing }
networked (refused number values) s nodes root = refusing s number

-- LINK
abbrev pub linked : Verdict → State → Done
linked accepted s =
    record {
      state = record { phase = s.phase; nodes = s.nodes; root = s.root; links = s.links + 1; rows = s.rows; tree = s.tree };
      out = Nothing;
    }
linked (refused number values) s = refusing s number

-- CHANGE
abbrev pub changing : Verdict → State → Done
changing accepted s =
    record {
      state = record { phase = s.phase; nodes = s.nodes; root = s.root; links = s.links; rows = s.rows + 1; tree = s.tree };
      out = Nothing;
    }
changing (refused number values) s = refusing s number

-- the first record after the LINKs: a fresh tree, and all else as it was
abbrev pub begun : State → Tree → State
begun s tree = record { phase = Routing; nodes = s.nodes; root = s.root; links = s.links; rows = s.rows; tree = tree }

-- APPLY: the next tree, and no row waits then
abbrev pub applied : State → Tree → ℕ → Done
applied s tree count =
    record { state = record { phase = s.phase; nodes = s.nodes; root = s.root; links = s.links; rows = 0; tree = tree }; out = Changed count }

-- ASK: the node's row in the tree that stands
abbrev pub asked : State → ℕ → Out
asked s node =
    cond (leb s.nodes node) (Refused 10)
    (Row node ((rows_of (arrays_of s.tree)).dist node) ((rows_of (arrays_of s.tree)).parent node) ((rows_of (arrays_of s.tree)).first node))

-- what each case of what a record tells means in 01: a refusal with its number, or none. (A place is known to whoever
-- read the record; of a row and of changed nodes the case has all that is printed.)
abbrev pub verdict_of : Out → Verdict
verdict_of Nothing = accepted
verdict_of (Row node dist parent first) = accepted
verdict_of (Changed count) = accepted
verdict_of (Refused number) = refused number (only 0)

abbrev pub is_refused : Verdict → Bool
is_refused accepted = false
is_refused (refused number values) = true

abbrev pub is_refusal : Out → Bool
is_refusal out = is_refused (verdict_of out)

-- after a refusal nothing more is read, and so it is at the end
abbrev pub goes_on : Item → Out → Bool
goes_on item out = is_record item && not (is_refusal out)
