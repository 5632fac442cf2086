-- Distances alone: what the jobs' inner parts hand on to each other before parents are chosen. Assumes nothing.
use Rattle.std.specs.Prelude.{◌≢◌, ◌≡◌, ℕ, ◌+◌, ◌≤◌, ◌<◌}
use Rattle.rules.specs.Net.{Net, Usable, Walk}

-- each distance but the mark is some walk's length, and no usable link from a reached node offers its end less
pub record Sums (N : Net) (dist : ℕ → ℕ) : Type 0 where
  pub root_zero : dist N.root ≡ 0
  pub walk : (v : ℕ) → dist v ≢ N.mark → Walk N v (dist v)
  pub is_route : (v : ℕ) → dist v ≢ N.mark → dist v < N.ceiling
  pub reaches : (k : ℕ) → Usable N k → dist (N.start k) ≢ N.mark → dist (N.start k) + N.cost k < N.ceiling → dist (N.end k) ≢ N.mark
  pub no_less : (k : ℕ) → Usable N k → dist (N.start k) ≢ N.mark → dist (N.start k) + N.cost k < N.ceiling
      → dist (N.end k) ≤ dist (N.start k) + N.cost k
