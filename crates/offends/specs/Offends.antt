-- The pass over the links: which nodes a link offers less than they have. Assumes nothing.
use Rattle.std.specs.Prelude.{◌≡◌, Bool, true, false, ◌&&◌, ◌||◌, not, cond, List, ℕ, Option, None, Some, ◌+◌, ◌≤◌, ◌<◌, eqb, ltb, length, get_or}
use Rattle.rules.specs.Net.{Net}
use Rattle.rules.specs.Tests.{usable}
use Rattle.rules.specs.Columns.{Table, most_nodes, no_ceiling}

-- a sum over a link from a node at this distance makes a route: the node is reached, and the sum below the ceiling
abbrev pub counts : ℕ → ℕ → ℕ → ℕ → Bool
counts mark ceiling from sum = not (eqb from mark) && ltb sum ceiling

-- a node at distance to has more than a sum, or is unreached
abbrev pub has_more : ℕ → ℕ → ℕ → Bool
has_more mark sum to = ltb sum to || eqb to mark

-- a link of this cost, from a node at one distance, offers a node at another less than it has, or enters it though
-- it is unreached: if the link is usable
unfoldable pub offers_less : ℕ → ℕ → ℕ → ℕ → ℕ → Bool
offers_less mark ceiling from cost to = counts mark ceiling from (from + cost) && has_more mark (from + cost) to

-- what an offer has to stay below at a node of this distance: the distance where that makes a route, else the ceiling
unfoldable pub bar : ℕ → ℕ → ℕ → ℕ
bar mark ceiling dist = cond (counts mark ceiling dist dist) dist ceiling

-- of the first n nodes
pub record Bars (mark ceiling : ℕ) (dist : List ℕ) (n : ℕ) (bars : List ℕ) : Type 0 where
  pub long : length bars ≡ most_nodes
  pub each : (v : ℕ) → v < n → get_or bars v 0 ≡ bar mark ceiling (get_or dist v 0)

-- a cost can be added to each
pub record Low (bars : List ℕ) : Type 0 where
  pub long : length bars ≡ most_nodes
  pub low : (v : ℕ) → v < most_nodes → get_or bars v 0 ≤ no_ceiling

-- link k offers less by the bars of its ends
unfoldable pub offers_by : Table → List ℕ → ℕ → Bool
offers_by t bars k = ltb (get_or bars (get_or t.starts k 0) 0 + get_or t.costs k 0) (get_or bars (get_or t.ends k 0) 0)

-- and is usable
unfoldable pub offends_by : Net → List ℕ → ℕ → Bool
unfolding usable
offends_by N bars k = ltb (get_or bars (N.start k) 0 + N.cost k) (get_or bars (N.end k) 0) && usable N k

-- none of the first n links is up and offers less
pub record Calm (t : Table) (bars : List ℕ) (n : ℕ) : Type 0 where
  pub is_few : n ≤ length t.starts
  pub none : (k : ℕ) → k < n → (ltb 0 (get_or t.costs k 0) && offers_by t bars k) ≡ false

-- the same as an answer: of the links before one, or of all
abbrev pub CalmTo : Table → List ℕ → Option ℕ → Type 0
CalmTo t bars None = Calm t bars (length t.starts)
CalmTo t bars (Some n) = (n < length t.starts) × Calm t bars n

module _ (N : Net) (dist : ℕ → ℕ) where
  -- link k does, and is
  unfoldable pub offends : ℕ → Bool
  unfolding offers_less usable
  offends k = offers_less N.mark N.ceiling (dist (N.start k)) (N.cost k) (dist (N.end k)) && usable N k

  -- one of the first n links offends its end v
  pub record Offended (n v : ℕ) : Type 0 where
    pub link : ℕ
    pub is_link : link < n
    pub ends_at : N.end link ≡ v
    pub offends : offends link ≡ true

  -- the smallest node that one of the first n links offers less than it has, or 256
  pub record LeastOffended (n v : ℕ) : Type 0 where
    pub within : v ≤ most_nodes
    pub least : (k : ℕ) → k < n → offends k ≡ true → v ≤ N.end k
    pub offended : v < most_nodes → Offended n v

  -- the same as an answer: the node, or none
  abbrev pub LeastOffendedOf : ℕ → Option ℕ → Type 0
  LeastOffendedOf n None = LeastOffended n most_nodes
  LeastOffendedOf n (Some v) = (v < most_nodes) × LeastOffended n v
