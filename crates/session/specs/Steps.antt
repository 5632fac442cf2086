-- What one record does, whatever it is and whenever it comes. Assumes nothing.
use Rattle.std.specs.Prelude.{◌≡◌, false, List, [], ℕ, take, drop}
use Rattle.rules.specs.Columns.{table}
use Rattle.rules.specs.Refusals.{Verdict, accepted, judge_links}
use Rattle.rules.specs.Jobs.{Built, Updated}
use Rattle.batch.specs.Rows.{rows_of_columns}
use Rattle.stream.specs.declared.Item.{Item}
use Rattle.stream.specs.declared.Item.TheVariants.{Network, Link, Change, Apply, Ask, End, UnknownKind, CutShort}
use Rattle.order.specs.declared.Phase.TheVariants.{Unread, Linking, Routing}
use Rattle.order.specs.Order.{is_unread, in_order}
use Rattle.enter.specs.More.{with_one_more, with_link, judge_waiting, entered}
use Rattle.tree.specs.Value.{arrays_of}
use Rattle.state.specs.declared.Out.TheVariants.{Nothing}
use Rattle.state.specs.declared.State.{State}
use Rattle.state.specs.declared.Done.{Done}
use Rattle.state.specs.States.{table_of, waiting, refusing, networked, linked, changing, begun, applied, asked}
use Rattle.session.specs.declared.Lists.{Lists}
use Rattle.session.specs.Holding.{lists, Holds}

-- LINK: 3 to 5 of the table with this link as its last, which is written where it is accepted
abbrev pub link_verdict : State → Lists → ℕ → ℕ → ℕ → Verdict
link_verdict s k start end cost = judge_links (with_link (table_of s k.starts k.ends k.costs) start end cost)

abbrev pub link_lists : Verdict → State → Lists → ℕ → ℕ → ℕ → Lists
link_lists v s k start end cost =
    lists (entered v k.starts s.links start) (entered v k.ends s.links end) (entered v k.costs s.links cost) k.changed k.newcosts k.list

-- CHANGE: 7 to 9 of the rows that wait with this one as the last, which is written where it is accepted
abbrev pub change_verdict : State → Lists → ℕ → ℕ → Verdict
change_verdict s k link cost =
    judge_waiting (table_of s k.starts k.ends k.costs)
    (rows_of_columns (with_one_more (take s.rows k.changed) link) (with_one_more (take s.rows k.newcosts) cost))

abbrev pub change_lists : Verdict → State → Lists → ℕ → ℕ → Lists
change_lists v s k link cost =
    lists k.starts k.ends k.costs (entered v k.changed s.rows link) (entered v k.newcosts s.rows cost) k.list

-- the first record after the LINKs: a fresh tree, and all else as it was
pub record Begun (s : State) (starts ends costs : List ℕ) (r : State) : Type 0 where
  pub kept : r ≡ begun s r.tree
  pub built : Built (table_of s starts ends costs) accepted (arrays_of r.tree)

-- APPLY: the update by the rows that wait is accepted; its count is told, its nodes are listed, and no row waits then
pub record Applied (s : State) (starts ends costs changed newcosts list : List ℕ) (r : Done) (costs' list' : List ℕ) : Type 0 where
  pub count : ℕ
  pub kept : r ≡ applied s r.state.tree count
  pub updated : Updated (table_of s starts ends costs) (arrays_of s.tree) (waiting s changed newcosts) list accepted
      (arrays_of r.state.tree) (take s.links costs') list' count
  -- the places of the column past the links stay
  pub beyond : drop s.links costs' ≡ drop s.links costs

-- the state that CHANGE, APPLY and ASK meet: the first of them after the LINKs has the tree built
pub data Ready (s : State) (k : Lists) : State → Type 0 where
  begins : {r : State} → s.phase ≡ Linking → Begun s k.starts k.ends k.costs r → Ready s k r
  stays : s.phase ≡ Routing → Ready s k s

-- what each record does to the state and the lists, and what it tells
pub data Steps (s : State) (k : Lists) : Item → Done → Lists → Type 0 where
  out_of_order : {item : Item} → in_order s.phase item ≡ false → Steps s k item (refusing s 23) k
  unknown : {place : ℕ} → Steps s k (UnknownKind place) (refusing s 21) k
  cut : {place : ℕ} → Steps s k (CutShort place) (refusing s 22) k
  ended : is_unread s.phase ≡ false → Steps s k End (record { state = s; out = Nothing }) k
  network : {nodes root : ℕ} → s.phase ≡ Unread
      → Steps s k (Network nodes root) (networked (judge_links (table nodes root [] [] [])) s nodes root) k
  link : {start end cost : ℕ} → s.phase ≡ Linking
      → Steps s k (Link start end cost) (linked (link_verdict s k start end cost) s) (link_lists (link_verdict s k start end cost) s k start end cost)
  change : {link cost : ℕ} {r : State} → Ready s k r
      → Steps s k (Change link cost) (changing (change_verdict r k link cost) r) (change_lists (change_verdict r k link cost) r k link cost)
  apply : {r : State} {done : Done} {costs list : List ℕ} → Ready s k r
      → Applied r k.starts k.ends k.costs k.changed k.newcosts k.list done costs list
      → Steps s k Apply done (lists k.starts k.ends costs k.changed k.newcosts list)
  ask : {node : ℕ} {r : State} → Ready s k r → Steps s k (Ask node) (record { state = r; out = asked r node }) k

-- and what holds between records holds after it
abbrev pub Stepped : State → Lists → Item → Done → Lists → Type 0
Stepped s k item d l = Steps s k item d l × Holds d.state l
