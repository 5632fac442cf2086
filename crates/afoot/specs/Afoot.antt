-- Distances on their way to the least sums, and the queue of the nodes whose links have yet to be offered. Assumes
-- nothing.
use Rattle.std.specs.Prelude.{◌≡◌, ◌⊎◌, ◌≢◌, not, List, ℕ, zero, suc, ◌+◌, ◌-◌, ◌*◌, ◌≤◌, ◌<◌, eqb, length, get_or}
use Rattle.rules.specs.Net.{Net, Usable, Walk}
use Rattle.rules.specs.Keep.{one}
use Rattle.rules.specs.Columns.{most_nodes}
use Rattle.queue.specs.Queue.{empty, key_of}
use Rattle.sums.specs.Sums.{Sums}
use Rattle.offer.specs.Offer.{dist_at, key_at, Lined}

-- what is asked of the network: the arrays have a place for each node, links stand in the order of their starts, and none
-- ends where it starts
pub record Orderly (N : Net) : Type 0 where
  pub few_nodes : N.nodes ≤ most_nodes
  pub no_such_link : N.links ≤ N.none
  pub root_is_node : N.root < N.nodes
  pub starts : (k : ℕ) → k < N.links → N.start k < N.nodes
  pub ends : (k : ℕ) → k < N.links → N.end k < N.nodes
  pub apart : (k : ℕ) → k < N.links → N.start k ≢ N.end k
  pub order : (k : ℕ) → k < N.links → N.start (k - 1) ≤ N.start k

-- some walk to v is at most so long
pub record Within (N : Net) (v distance : ℕ) : Type 0 where
  pub sum : ℕ
  pub walk : Walk N v sum
  pub within : sum ≤ distance

-- no distance is too small
pub record Seeded (N : Net) (dist keys : List ℕ) : Type 0 where
  pub lined : Lined N.mark dist keys
  pub root_zero : dist_at N dist N.root ≡ 0
  pub walks : (v : ℕ) → dist_at N dist v < N.mark → Within N v (dist_at N dist v)

-- link k offers nothing less, unless its start waits or is unreached
pub record Calm (N : Net) (dist keys : List ℕ) (k : ℕ) : Type 0 where
  pub calm : key_at keys (N.start k) ≡ empty → dist_at N dist (N.start k) < N.mark
      → dist_at N dist (N.end k) ≤ dist_at N dist (N.start k) + N.cost k

-- besides, of the links that are done only a waiting node's may have something less to offer
pub record Partly (N : Net) (done : ℕ → Type 0) (dist keys : List ℕ) : Type 0 where
  pub begun : Seeded N dist keys
  pub calm : (k : ℕ) → Usable N k → done k → Calm N dist keys k

-- which links are done: every one, every one that doesn't leave u, or every one that no row from the i-th on may have made
-- better or worse
abbrev pub Every : ℕ → Type 0
Every k = Unit {0}

abbrev pub NotFrom : Net → ℕ → ℕ → Type 0
NotFrom N u k = N.start k ≢ u

-- link k leads back over link j, from its end to its start
pub record Back (N : Net) (j k : ℕ) : Type 0 where
  pub from : N.start k ≡ N.end j
  pub to : N.end k ≡ N.start j

-- a row that names link j touches that link, and each that leads back over it
abbrev pub Touches : Net → ℕ → ℕ → Type 0
Touches N j k = (j ≡ k) ⊎ Back N j k

abbrev pub Untouched : Net → List ℕ → ℕ → ℕ → Type 0
Untouched N rows i k = (m : ℕ) → i ≤ m → m < length rows → ¬ (Touches N (get_or rows m 0) k)

-- each row names one of so many links
pub record Naming (links : ℕ) (rows : List ℕ) : Type 0 where
  pub named : (m : ℕ) → m < length rows → get_or rows m 0 < links

abbrev pub Afoot : Net → List ℕ → List ℕ → Type 0
Afoot N dist keys = Partly N Every dist keys

-- nothing waits, and the distances are the least sums
pub record Settled (N : Net) (dist keys : List ℕ) : Type 0 where
  pub sums : Sums N (λ v. dist_at N dist v)
  pub lined : Lined N.mark dist keys
  pub none_waits : (v : ℕ) → key_at keys v ≡ empty

-- v is as before, or waits with a smaller distance
pub data Fallen (N : Net) (dist keys dist' keys' : List ℕ) (v : ℕ) : Type 0 where
  same : dist_at N dist' v ≡ dist_at N dist v → key_at keys' v ≡ key_at keys v → Fallen N dist keys dist' keys' v
  lower : v < most_nodes → dist_at N dist' v < dist_at N dist v → key_at keys' v ≡ key_of (dist_at N dist' v) v → Fallen N dist keys dist' keys' v

pub record Fell (N : Net) (dist keys dist' keys' : List ℕ) : Type 0 where
  pub each : (v : ℕ) → Fallen N dist keys dist' keys' v

-- the sum of a number of each node below n
unfoldable pub sum_below : (ℕ → ℕ) → ℕ → ℕ
sum_below f zero = 0
sum_below f (suc n) = f n + sum_below f n

-- twice a node's distance, and one more where it waits
unfoldable pub weight_at : Net → List ℕ → List ℕ → ℕ → ℕ
weight_at N dist keys v = dist_at N dist v * 2 + one (not (eqb (key_at keys v) empty))

-- what falls with each offer that is taken and with each node that is
unfoldable pub weight : Net → List ℕ → List ℕ → ℕ
unfolding sum_below weight_at
weight N dist keys = sum_below (weight_at N dist keys) most_nodes
