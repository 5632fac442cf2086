-- Where each distance is at least some walk's length and no link offers less, the distances are the least sums. Assumes
-- nothing.
use mathlib.Core.Path.{◌≡◌}
use mathlib.Core.Logic.{◌≢◌}
use Prim.Native.Nat.{ℕ, ◌+◌, ◌≤◌, ◌<◌}
use native.Mathlib.Omega.{arith}
use native.Mathlib.Decide.{dec_lt}
use Rattle.rules.specs.Net.{Net, Usable, Walk, at_root, along}
use Rattle.sums.specs.Sums.{Sums}
use Rattle.level.specs.Level.{Level}
use Rattle.afoot.specs.Afoot.{Within}

-- distances up to the mark, none too small and none too large
pub record Sure (N : Net) (dist : ℕ → ℕ) : Type 0 where
  pub root_zero : dist N.root ≡ 0
  pub most : (v : ℕ) → dist v ≤ N.mark
  pub walks : (v : ℕ) → dist v < N.mark → Within N v (dist v)
  pub no_less : (k : ℕ) → Usable N k → dist (N.start k) < N.mark → dist (N.end k) ≤ dist (N.start k) + N.cost k

module _ {N : Net} {dist : ℕ → ℕ} (s : Sure N dist) where
  -- no walk is shorter
  least : {v d : ℕ} → Walk N v d → dist v ≤ d
  least at_root = omega (arith, s.root_zero)
  least (along {d} k u w) = step (least w) (dec_lt (dist (N.start k)) N.mark)
    where
      step : dist (N.start k) ≤ d → Dec (dist (N.start k) < N.mark) → dist (N.end k) ≤ d + N.cost k
      step l (yes near) = omega (arith, s.no_less k u near)
      step l (no far) = omega (arith, s.most (N.end k))

  walk_to : (v : ℕ) → dist v < N.mark → Walk N v (dist v)
  walk_to v near =
      let w = s.walks v near in
      let same : w.sum ≡ dist v = omega (arith, least w.walk, w.within) in
      rw same at w.walk

  below : (v : ℕ) → dist v ≢ N.mark → dist v < N.mark
  below v d = omega (arith, d, s.most v)

  -- the mark is the ceiling, so a sum that is no route is less than no distance
  pub sums : Level N → Sums N dist
  sums level =
      record {
        root_zero = s.root_zero;
        walk = λ v d. walk_to v (below v d);
        is_route = λ v d. omega (arith, below v d, level.level);
        reaches = λ k u d c e. omega (arith, s.no_less k u (below (N.start k) d), level.level);
        no_less = λ k u d c. s.no_less k u (below (N.start k) d);
      }
