-- Where links start. Assumes nothing.
use Rattle.std.specs.Prelude.{List, ℕ, ◌≤◌, ◌<◌, length, get_or}
use Rattle.rules.specs.Columns.{most_nodes, most_links}

-- at most 4,096 links, each from one of 256 nodes
pub record Leaving (starts : List ℕ) : Type 0 where
  pub few : length starts ≤ most_links
  pub nodes : (k : ℕ) → k < length starts → get_or starts k 0 < most_nodes
