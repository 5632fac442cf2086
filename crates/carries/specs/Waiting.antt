-- What is asked of a node's parent link after costs have changed, and what makes a node wait. Assumes nothing.
use Rattle.std.specs.Prelude.{◌≡◌, ◌≢◌, List, ℕ, ◌+◌, ◌≤◌, ◌<◌, get_or}
use Rattle.queue.specs.Queue.{empty}
use Rattle.offer.specs.Offer.{key_at, Lined}

-- from a reached node at distance `from`, a cost gives no more than `to`
pub record Enough (mark from cost to : ℕ) : Type 0 where
  pub reached : from < mark
  pub enough : from + cost ≤ to

-- node v waits if it is reached, and nothing else is changed
pub record Waiting (mark : ℕ) (dist keys : List ℕ) (v : ℕ) (keys' : List ℕ) : Type 0 where
  pub lined : Lined mark dist keys'
  pub here : get_or dist v mark < mark → key_at keys' v ≢ empty
  pub others : (u : ℕ) → u ≢ v → key_at keys' u ≡ key_at keys u
