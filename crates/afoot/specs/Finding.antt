-- The links that offers come by, kept beside the distances: on their way to each node's smallest tight link. Assumes
-- nothing.
use Rattle.std.specs.Prelude.{◌≡◌, ◌⊎◌, ◌≢◌, Bool, true, List, ℕ, ◌+◌, ◌≤◌, ◌<◌, length}
use Rattle.rules.specs.Net.{Net, Usable}
use Rattle.rules.specs.Fit.{Rows, Tight}
use Rattle.rules.specs.Keep.{Smallest}
use Rattle.rules.specs.Columns.{most_nodes}
use Rattle.queue.specs.Queue.{empty}
use Rattle.offer.specs.Offer.{dist_at, key_at, found_at}
use Rattle.afoot.specs.Afoot.{Calm, Partly, Every, NotFrom, Afoot, Fell, weight}

-- link k carries node v: it is usable and leads to v from a reached node, whose distance plus its cost is at most v's
pub record Carries (N : Net) (dist : List ℕ) (k v : ℕ) : Type 0 where
  pub usable : Usable N k
  pub ends_at : N.end k ≡ v
  pub reached : dist_at N dist (N.start k) < N.mark
  pub enough : dist_at N dist (N.start k) + N.cost k ≤ dist_at N dist v

-- v has moved: it took an offer since the distances were `old`
abbrev pub Moved : Net → List ℕ → List ℕ → ℕ → Type 0
Moved N old dist v = dist_at N dist v < dist_at N old v

-- no larger link is found where link k is tight into a node that has moved, unless its start waits
pub record Yields (N : Net) (old dist keys found : List ℕ) (k : ℕ) : Type 0 where
  pub yields : key_at keys (N.start k) ≡ empty → dist_at N dist (N.start k) < N.mark
      → dist_at N dist (N.start k) + N.cost k ≡ dist_at N dist (N.end k)
      → Moved N old dist (N.end k) → found_at N found (N.end k) ≤ k

-- link k was found for v: v is reached, and it carries v
pub record Brings (N : Net) (dist : List ℕ) (k v : ℕ) : Type 0 where
  pub comes : dist_at N dist v < N.mark
  pub carries : Carries N dist k v

-- distances only fall; each link found carries its node, which is reached; a node that has moved has one; and none that is
-- done is smaller and tight, unless its start waits
pub record Finding (N : Net) (done : ℕ → Type 0) (old dist keys found : List ℕ) : Type 0 where
  pub fell : (v : ℕ) → dist_at N dist v ≤ dist_at N old v
  pub brings : (v : ℕ) → found_at N found v ≢ N.none → Brings N dist (found_at N found v) v
  pub some : (v : ℕ) → Moved N old dist v → found_at N found v ≢ N.none
  pub yields : (k : ℕ) → Usable N k → done k → Yields N old dist keys found k

-- the rows of a tree that has these distances and these parents
abbrev pub hung_by : Net → List ℕ → List ℕ → Rows
hung_by N dist found = record { dist = λ v. dist_at N dist v; parent = λ v. found_at N found v; first = λ v. found_at N found v }

-- each link found is tight, and its node reached; and a node that has moved has its tight link of smallest number
pub record Found (N : Net) (old dist found : List ℕ) : Type 0 where
  pub fell : (v : ℕ) → dist_at N dist v ≤ dist_at N old v
  pub reached : (v : ℕ) → found_at N found v ≢ N.none → dist_at N dist v < N.mark
  pub tight : (v : ℕ) → found_at N found v ≢ N.none → Tight N (hung_by N dist found) (found_at N found v) v
  pub smallest : (v : ℕ) → Moved N old dist v → Smallest N (hung_by N dist found) v (found_at N found v)

-- what is known of the links found goes on: whatever the distances were to begin with, from the one state to the other
pub record GoesOn (N : Net) (done : ℕ → Type 0) (dist keys found : List ℕ) (done' : ℕ → Type 0) (dist' keys' found' : List ℕ) : Type 0 where
  pub long : length found' ≡ most_nodes
  pub on : (old : List ℕ) → Finding N done old dist keys found → Finding N done' old dist' keys' found'

-- u is reached and was taken: the links that leave it are yet to be offered
pub record Taken (N : Net) (u : ℕ) (dist keys : List ℕ) : Type 0 where
  pub partly : Partly N (NotFrom N u) dist keys
  pub near : dist_at N dist u < N.mark

-- they are offered: every link is done, no weight was gained, and what is known goes on
pub record Served (N : Net) (u : ℕ) (dist keys found dist' keys' found' : List ℕ) : Type 0 where
  pub afoot : Afoot N dist' keys'
  pub lighter : weight N dist' keys' ≤ weight N dist keys
  pub goes_on : GoesOn N (NotFrom N u) dist keys found Every dist' keys' found'

-- more links are done, and what is known goes on
pub record Heard (N : Net) (done : ℕ → Type 0) (dist keys found : List ℕ) (done' : ℕ → Type 0) (dist' keys' found' : List ℕ) : Type 0 where
  pub partly : Partly N done' dist' keys'
  pub fell : Fell N dist keys dist' keys'
  pub goes_on : GoesOn N done dist keys found done' dist' keys' found'

-- link k had nothing less to offer, or leads to a node without a first link, if nodes were lifted
abbrev pub CalmOr : Net → List ℕ → List ℕ → Bool → List ℕ → ℕ → Type 0
CalmOr N dist keys lifted first k = Calm N dist keys k ⊎ ((lifted ≡ true) × (found_at N first (N.end k) ≡ N.none))

-- and comes to its end
pub record Comes (N : Net) (dist keys found dist' found' : List ℕ) : Type 0 where
  pub long : length found' ≡ most_nodes
  pub comes : (old : List ℕ) → Finding N Every old dist keys found → Found N old dist' found'
