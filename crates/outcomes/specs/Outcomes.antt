-- What is shown of every record: which refusals its kind can give, what a refusal leaves, and what an ASK and an APPLY
-- tell of the records so far. proofs/Listed.antt and proofs/Led.antt show it. Assumes nothing.
use Rattle.std.specs.Prelude.{◌≡◌, ◌⊎◌, true, false, List, [], ◌∷◌, ℕ, ◌≤◌, length}
use Rattle.rules.specs.Columns.{net_of, rows_of, most_links, most_rows, most_cost}
use Rattle.rules.specs.Jobs.{written}
use Rattle.rules.specs.Demands.{Stands, LeastSums, Names, Stable, SixteenBit}
use Rattle.tree.specs.Value.{arrays_of}
use Rattle.stream.specs.declared.Item.{Item}
use Rattle.stream.specs.declared.Item.TheVariants.{Network, Link, Change, Apply, Ask, End, UnknownKind, CutShort}
use Rattle.state.specs.declared.Out.TheVariants.{Row, Changed}
use Rattle.state.specs.declared.State.{State}
use Rattle.state.specs.declared.Done.{Done}
use Rattle.order.specs.Order.{in_order}
use Rattle.state.specs.States.{table_of}
use Rattle.session.specs.declared.Lists.{Lists}
use Rattle.session.specs.Steps.{Begun, Ready, Steps}

-- the refusals of each kind: 1 and 2 at NETWORK, 3 (the 4,097th), 4 and 5 at LINK, 7 (the 257th since the last APPLY),
-- 8 and 9 at CHANGE, 10 at ASK, none at APPLY and at the end; what is no record has its own
pub data ForKind (s : State) : Item → ℕ → Type 0 where
  node_count : {nodes root : ℕ} → ForKind s (Network nodes root) 1
  no_root : {nodes root : ℕ} → ForKind s (Network nodes root) 2
  no_place : {start end cost : ℕ} → s.links ≡ most_links → ForKind s (Link start end cost) 3
  bad_ends : {start end cost : ℕ} → ForKind s (Link start end cost) 4
  wrong_order : {start end cost : ℕ} → ForKind s (Link start end cost) 5
  no_row : {link cost : ℕ} → s.rows ≡ most_rows → ForKind s (Change link cost) 7
  no_such_link : {link cost : ℕ} → ForKind s (Change link cost) 8
  again : {link cost : ℕ} → ForKind s (Change link cost) 9
  no_node : {node : ℕ} → s.nodes ≤ node → ForKind s (Ask node) 10
  unknown_kind : {place : ℕ} → ForKind s (UnknownKind place) 21
  cut_short : {place : ℕ} → ForKind s (CutShort place) 22

-- out of order comes first, and is 23; what is no record is never out of order
pub data Listed (s : State) (item : Item) (number : ℕ) : Type 0 where
  disorder : in_order s.phase item ≡ false → number ≡ 23 → Listed s item number
  for_kind : in_order s.phase item ≡ true → ForKind s item number → Listed s item number

-- after a refusal every list is as it was, and so is the state, but that the first record after the LINKs has the tree built
pub record Left (s : State) (k : Lists) (r : State) (l : Lists) : Type 0 where
  pub state : (r ≡ s) ⊎ Begun s k.starts k.ends k.costs r
  pub lists : l ≡ k

-- the states and lists that records lead to from a start, the latest record first
pub data Led (from : State) (lent : Lists) : List Item → State → Lists → Type 0 where
  none : Led from lent [] from lent
  next : {items : List Item} {s : State} {k : Lists} {item : Item} {d : Done} {l : Lists} → Led from lent items s k → Steps s k item d l
      → Led from lent (item ∷ items) d.state l

-- an ASK tells the node's row of the tree that the rules give for the links and the changes applied so far; its
-- distances are the least sums
pub record Answers (k : Lists) (node : ℕ) (d : Done) : Type 0 where
  pub told : d.out ≡ Row node ((rows_of (arrays_of d.state.tree)).dist node) ((rows_of (arrays_of d.state.tree)).parent node) ((rows_of (arrays_of d.state.tree)).first node)
  pub stands : Stands (table_of d.state k.starts k.ends k.costs) (arrays_of d.state.tree)
  pub least : LeastSums (table_of d.state k.starts k.ends k.costs) (arrays_of d.state.tree)

-- an APPLY tells how many nodes it lists: those whose row differs from the row in the tree that it met, in rising order
-- at the front of the list, whose other places stay. No tree that fits keeps more nodes on their link
pub record Reports (s : State) (k : Lists) (d : Done) (l : Lists) : Type 0 where
  pub met : State
  pub ready : Ready s k met
  pub changed : List ℕ
  pub told : d.out ≡ Changed (length changed)
  pub listed : l.list ≡ written changed k.list
  pub names : Names (rows_of (arrays_of met.tree)) (rows_of (arrays_of d.state.tree)) changed
  pub stable : Stable (net_of (table_of d.state l.starts l.ends l.costs)) (rows_of (arrays_of met.tree)).parent (rows_of (arrays_of d.state.tree))

-- a LINK's or CHANGE's cost is a 16-bit number
abbrev pub CostFits : Item → Type 0
CostFits (Network nodes root) = Unit {0}
CostFits (Link start end cost) = cost ≤ most_cost
CostFits (Change link cost) = cost ≤ most_cost
CostFits Apply = Unit {0}
CostFits (Ask node) = Unit {0}
CostFits End = Unit {0}
CostFits (UnknownKind place) = Unit {0}
CostFits (CutShort place) = Unit {0}

-- and so are the costs that stand in the lent columns
pub record CostsFit (k : Lists) : Type 0 where
  pub costs : SixteenBit k.costs
  pub newcosts : SixteenBit k.newcosts
