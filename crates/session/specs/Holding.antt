-- What holds between records. Assumes nothing.
use Rattle.std.specs.Prelude.{◌≡◌, List, ℕ, ◌≤◌, length}
use Rattle.rules.specs.Columns.{Whole, most_links, most_rows, most_nodes}
use Rattle.rules.specs.Refusals.{accepted, judge_links, judge_tree, judge_rows}
use Rattle.order.specs.declared.Phase.TheVariants.{Unread, Linking, Routing}
use Rattle.tree.specs.Value.{arrays_of}
use Rattle.state.specs.declared.State.{State}
use Rattle.session.specs.declared.Lists.{Lists}
use Rattle.state.specs.States.{table_of, waiting}

-- the lent columns have a place for each link that there can be
pub record Columns (starts ends costs : List ℕ) : Type 0 where
  pub starts_long : length starts ≡ most_links
  pub ends_long : length ends ≡ most_links
  pub costs_long : length costs ≡ most_links

-- while LINKs are read: the links so far are an accepted table, and no row waits
pub record TableStands (s : State) (starts ends costs : List ℕ) : Type 0 where
  pub columns : Columns starts ends costs
  pub few_links : s.links ≤ most_links
  pub judged : judge_links (table_of s starts ends costs) ≡ accepted
  pub no_rows : s.rows ≡ 0

-- the lists that are lent beside the columns
pub record Lent (changed newcosts list : List ℕ) : Type 0 where
  pub changed_long : length changed ≡ most_rows
  pub newcosts_long : length newcosts ≡ most_rows
  pub list_long : length list ≡ most_nodes

-- after the LINKs: the table is accepted, the tree is whole and fits it, and the rows that wait are acceptable
pub record TreeStands (s : State) (starts ends costs changed newcosts : List ℕ) : Type 0 where
  pub columns : Columns starts ends costs
  pub few_links : s.links ≤ most_links
  pub few_rows : s.rows ≤ most_rows
  pub whole : Whole (arrays_of s.tree)
  pub judged : judge_tree (table_of s starts ends costs) (arrays_of s.tree) ≡ accepted
  pub rows_judged : judge_rows (table_of s starts ends costs) (waiting s changed newcosts) ≡ accepted

abbrev pub lists : List ℕ → List ℕ → List ℕ → List ℕ → List ℕ → List ℕ → Lists
lists starts ends costs changed newcosts list =
    record { starts = starts; ends = ends; costs = costs; changed = changed; newcosts = newcosts; list = list }

abbrev pub table_in : State → Lists → Type 0
table_in s k = TableStands s k.starts k.ends k.costs

abbrev pub tree_in : State → Lists → Type 0
tree_in s k = TreeStands s k.starts k.ends k.costs k.changed k.newcosts

abbrev pub lent_in : Lists → Type 0
lent_in k = Lent k.changed k.newcosts k.list

pub data Holds (s : State) (k : Lists) : Type 0 where
  unread : s.phase ≡ Unread → Columns k.starts k.ends k.costs → lent_in k → Holds s k
  linking : s.phase ≡ Linking → table_in s k → lent_in k → Holds s k
  routing : s.phase ≡ Routing → tree_in s k → lent_in k → Holds s k
