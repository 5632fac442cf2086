-- The keeping rule over a network, once its distances are right: a node whose old link is usable and tight keeps it.
-- Assumes nothing.
use Rattle.std.specs.Prelude.{◌≡◌, ◌≢◌, List, ℕ, ◌+◌, length, get_or}
use Rattle.rules.specs.Net.{Net}
use Rattle.rules.specs.Fit.{Rows, Reached, Tight}
use Rattle.rules.specs.Columns.{most_nodes}

-- from a node at distance `from`, a cost gives a reached node exactly the distance `own`
pub record Exact (mark from cost own : ℕ) : Type 0 where
  pub reached : own ≢ mark
  pub from_reached : from ≢ mark
  pub sum : from + cost ≡ own

-- the rows that have these distances and no links
abbrev pub unlinked : Net → (ℕ → ℕ) → Rows
unlinked N dist = record { dist = dist; parent = λ v. N.none; first = λ v. N.none }

-- v is reached, and link k is tight for it: where the mark is a sum too, a link may seem tight for an unreached node
pub record Holds (N : Net) (dist : ℕ → ℕ) (v k : ℕ) : Type 0 where
  pub reached : Reached N (unlinked N dist) v
  pub tight : Tight N (unlinked N dist) k v

-- a node keeps its old link where that holds it, and else takes the one found
pub data Kept (Held : ℕ → Type 0) (old found new : ℕ) : Type 0 where
  keeps : Held old → new ≡ old → Kept Held old found new
  takes : ¬ (Held old) → new ≡ found → Kept Held old found new

-- the same of every node
pub record AllKept (N : Net) (dist : ℕ → ℕ) (found old new : List ℕ) : Type 0 where
  pub long : length new ≡ most_nodes
  pub each : (v : ℕ) → Kept (Holds N dist v) (get_or old v N.none) (get_or found v N.none) (get_or new v N.none)

-- where no link was found for a reached node, its old one holds it, if it has one
pub record StandsBy (N : Net) (dist : ℕ → ℕ) (v old found : ℕ) : Type 0 where
  pub held : found ≡ N.none → Reached N (unlinked N dist) v → old ≢ N.none → Holds N dist v old

-- the same of every node
pub record StandingLinks (N : Net) (dist : ℕ → ℕ) (found old : List ℕ) : Type 0 where
  pub each : (v : ℕ) → StandsBy N dist v (get_or old v N.none) (get_or found v N.none)
