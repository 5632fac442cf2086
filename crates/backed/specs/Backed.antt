-- Which nodes' parent links have a link back. Assumes nothing.
use Rattle.std.specs.Prelude.{◌≡◌, Bool, ◌&&◌, not, cond, List, ℕ, ◌<◌, eqb, ltb, length, get_or}
use Rattle.rules.specs.Keep.{one}
use Rattle.rules.specs.Columns.{Table, most_nodes, some_leads}

-- the node that a parent link starts at; a number that is no link's starts nowhere
abbrev pub no_node : ℕ
no_node = 65535

unfoldable pub above : List ℕ → ℕ → ℕ
above starts link = cond (ltb link (length starts)) (get_or starts link 0) no_node

-- of each of the first n nodes
pub record Above (starts parent : List ℕ) (n : ℕ) (up : List ℕ) : Type 0 where
  pub long : length up ≡ most_nodes
  pub each : (v : ℕ) → v < n → get_or up v 0 ≡ above starts (get_or parent v 0)

-- a node's mark is 1 where some link leads from it to the node above it, and 0 where none does
pub record LedBack (t : Table) (parent marks : List ℕ) : Type 0 where
  pub each : (v : ℕ) → v < most_nodes → get_or marks v 0 ≡ one (some_leads t v (above t.starts (get_or parent v 0)))

-- a link of this cost is usable, where a mark tells whether it has a link back
abbrev pub usable_by : ℕ → ℕ → Bool
usable_by mark cost = not (eqb mark 0) && ltb 0 cost
