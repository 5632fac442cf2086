-- Answers that are kept: whether some link leads from one node to another. Assumes nothing.
use Rattle.std.specs.Prelude.{◌≡◌, Bool, List, ℕ, ◌+◌, ◌*◌, ◌<◌, length, get_or}
use Rattle.rules.specs.Keep.{one}
use Rattle.rules.specs.Columns.{Table, most_nodes, some_leads}

-- the node that was asked for and the answer, in one number; no node makes 65,535 of either answer
abbrev pub kept : ℕ → Bool → ℕ
kept to answer = to * 2 + one answer

-- for each of 256 nodes one answer may be kept, and is right
pub record Kept (t : Table) (asked : List ℕ) : Type 0 where
  pub long : length asked ≡ most_nodes
  pub right : (from to : ℕ) (answer : Bool) → from < most_nodes → to < most_nodes → get_or asked from 0 ≡ kept to answer → some_leads t from to ≡ answer
