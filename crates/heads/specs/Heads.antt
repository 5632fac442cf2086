-- Where the links that leave a node begin. Assumes nothing.
use Rattle.std.specs.Prelude.{◌≡◌, ◌≢◌, List, ℕ, ◌≤◌, ◌<◌, length, get_or}
use Rattle.rules.specs.Columns.{most_nodes}

-- of so many links with these starts, `head` is the first that leaves u, or the number of links where none does
pub record Head (links : ℕ) (start : ℕ → ℕ) (u head : ℕ) : Type 0 where
  pub within : head ≤ links
  pub before : (k : ℕ) → k < head → start k ≢ u
  pub leaves : head < links → start head ≡ u

-- the same of a column of starts, and of each of 256 nodes
abbrev pub HeadIn : List ℕ → ℕ → ℕ → Type 0
HeadIn starts u head = Head (length starts) (λ k. get_or starts k 0) u head

pub record Heads (starts at : List ℕ) : Type 0 where
  pub long : length at ≡ most_nodes
  pub each : (u : ℕ) → u < most_nodes → HeadIn starts u (get_or at u 0)
