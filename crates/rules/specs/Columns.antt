-- How the lent columns make a network, and the three arrays a tree. Here 01's sizes and numbers get their names; the
-- files before this one know none of them. Assumes nothing.
use Rattle.std.specs.Prelude.{◌≡◌, ◌≢◌, Bool, ◌&&◌, List, [], ◌∷◌, ℕ, ◌-◌, ◌^◌, ◌≤◌, ◌<◌, eqb, ltb, length, get_or, set, replicate}
use Rattle.rules.specs.Net.{Net}
use Rattle.rules.specs.Fit.{Rows}
use Rattle.rules.specs.Tests.{some}
use Rattle.rules.specs.declared.Change.{Change}
use Rattle.rules.specs.declared.Profile.{Profile}

abbrev pub most_nodes : ℕ
most_nodes = 256

abbrev pub most_links : ℕ
most_links = 4096

abbrev pub most_rows : ℕ
most_rows = 256

abbrev pub most_cost : ℕ
most_cost = 65535

-- OSPF's LSInfinity
abbrev pub unreached : ℕ
unreached = 16777215

abbrev pub no_link : ℕ
no_link = 65535

-- 01 knows no ceiling: this is above every sum of a 32-bit distance and a 16-bit cost
abbrev pub no_ceiling : ℕ
no_ceiling = 2 ^ 33

-- the node count, the root and the three lent columns
pub record Table : Type 0 where
  pub nodes : ℕ
  pub root : ℕ
  pub starts : List ℕ
  pub ends : List ℕ
  pub costs : List ℕ

abbrev pub table : ℕ → ℕ → List ℕ → List ℕ → List ℕ → Table
table nodes root starts ends costs = record { nodes = nodes; root = root; starts = starts; ends = ends; costs = costs }

-- the numbers of 16-bit costs
abbrev pub narrow : Profile
narrow = record { most = most_cost; ceiling = no_ceiling; mark = unreached }

-- link j leads from one node to another, and its cost isn't 0
abbrev pub leads : Table → ℕ → ℕ → ℕ → Bool
leads t from to j = eqb (get_or t.starts j 0) from && eqb (get_or t.ends j 0) to && ltb 0 (get_or t.costs j 0)

-- some link does
unfoldable pub some_leads : Table → ℕ → ℕ → Bool
unfolding some
some_leads t from to = some (leads t from to) (length t.starts)

-- a link's number is its place, from 0; it is open when some link leads back from its end to its start, so it is usable
-- when its cost isn't 0 and that of some link back isn't
abbrev pub net_in : Profile → Table → Net
net_in p t = record {
  nodes = t.nodes;
  root = t.root;
  links = length t.starts;
  start = λ k. get_or t.starts k 0;
  end = λ k. get_or t.ends k 0;
  cost = λ k. get_or t.costs k 0;
  is_open = λ k. some_leads t (get_or t.ends k 0) (get_or t.starts k 0);
  most = p.most;
  ceiling = p.ceiling;
  mark = p.mark;
  none = no_link;
}

abbrev pub net_of : Table → Net
net_of t = net_in narrow t

-- what an accepted table keeps: proofs/Judged.antt shows it of every table that passes refusals 1 to 5
pub record Proper (t : Table) : Type 0 where
  pub some_node : t.nodes ≢ 0
  pub few_nodes : t.nodes ≤ most_nodes
  pub root_is_node : t.root < t.nodes
  pub ends_long : length t.starts ≡ length t.ends
  pub costs_long : length t.starts ≡ length t.costs
  pub few_links : length t.starts ≤ most_links
  pub starts : (k : ℕ) → k < length t.starts → get_or t.starts k 0 < t.nodes
  pub ends : (k : ℕ) → k < length t.starts → get_or t.ends k 0 < t.nodes
  pub apart : (k : ℕ) → k < length t.starts → get_or t.starts k 0 ≢ get_or t.ends k 0
  pub order : (k : ℕ) → k < length t.starts → get_or t.starts (k - 1) 0 ≤ get_or t.starts k 0

-- a distance, a parent link and a first link for each of 256 nodes, in three arrays
pub record Arrays : Type 0 where
  pub dist : List ℕ
  pub parent : List ℕ
  pub first : List ℕ

abbrev pub arrays : List ℕ → List ℕ → List ℕ → Arrays
arrays dist parent first = record { dist = dist; parent = parent; first = first }

pub record Whole (t : Arrays) : Type 0 where
  pub dist : length t.dist ≡ most_nodes
  pub parent : length t.parent ≡ most_nodes
  pub first : length t.first ≡ most_nodes

abbrev pub rows_in : Profile → Arrays → Rows
rows_in p t = record {
  dist = λ v. get_or t.dist v p.mark;
  parent = λ v. get_or t.parent v no_link;
  first = λ v. get_or t.first v no_link;
}

abbrev pub rows_of : Arrays → Rows
rows_of t = rows_in narrow t

-- every node unreached, and no links in it
abbrev pub empty_tree : Arrays
empty_tree = record { dist = replicate most_nodes unreached; parent = replicate most_nodes no_link; first = replicate most_nodes no_link }

-- the cost column with a batch's costs written into it
unfoldable pub applied : List Change → List ℕ → List ℕ
applied [] costs = costs
applied (row ∷ rows) costs = applied rows (set costs row.link row.cost)

-- the table with other costs
abbrev pub with_costs : Table → List ℕ → Table
with_costs t costs = table t.nodes t.root t.starts t.ends costs

-- the table with a batch's
abbrev pub after : Table → List Change → Table
after t batch = with_costs t (applied batch t.costs)
