-- The weight of distances and queue falls with each node that is taken, and with no offer it rises. Assumes nothing.
use mathlib.Core.Path.{◌≡◌}
use mathlib.Core.Logic.{◌≢◌}
use mathlib.Core.Bool.{Bool, true, false, not}
use mathlib.Core.List.{List}
use Prim.Native.Nat.{ℕ, zero, suc, ◌+◌, ◌≤◌, ◌<◌}
use native.Mathlib.Omega.{arith}
use native.Mathlib.Nat.{not-suc-le-zero}
use native.Mathlib.Decide.{ℕ_discrete}
use lib.Dec.{eqb}
use lib.ListN.{length, set}
use lib.Seq.{get_or-set_same, get_or-set_other}
use borrow.Author.Tests.{ne_eqb}
use Rattle.rules.specs.Net.{Net}
use Rattle.rules.specs.Keep.{one}
use Rattle.rules.specs.Columns.{most_nodes}
use Rattle.queue.specs.Queue.{empty}
use Rattle.offer.specs.Offer.{key_at}
use Rattle.afoot.specs.Afoot.{Fallen, same, lower, Fell, sum_below, weight_at, weight}

-- ---- sums

module _ (f g : ℕ → ℕ) where
  sum_le : (n : ℕ) → ((v : ℕ) → v < n → f v ≤ g v) → sum_below f n ≤ sum_below g n
  unfolding sum_below
  sum_le zero each = omega arith
  sum_le (suc n) each = let before = sum_le n (λ v l. each v (omega arith)) in omega (arith, each n (omega arith))

  sum_lt : (n : ℕ) → ((v : ℕ) → v < n → f v ≤ g v) → (u : ℕ) → u < n → f u < g u → sum_below f n < sum_below g n
  unfolding sum_below
  sum_lt zero each u l less = absurd (not-suc-le-zero l)
  sum_lt (suc n) each u l less = at (sum_lt n (λ v m. each v (omega arith)) u) (ℕ_discrete u n)
    where
      at : (u < n → f u < g u → sum_below f n < sum_below g n) → Dec (u ≡ n) → f n + sum_below f n < g n + sum_below g n
      at before (yes e) = let here : f n < g n = rw e at less in omega (arith, sum_le n (λ v m. each v (omega arith)))
      at before (no d) = omega (arith, before (omega arith) less, each n (omega arith))

-- ---- weights

one_most : (b : Bool) → one b ≤ 1
one_most true = omega arith
one_most false = omega arith

-- a node that falls loses two and gains at most one
at_fallen : {N : Net} {dist keys dist' keys' : List ℕ} {v : ℕ} → Fallen N dist keys dist' keys' v → weight_at N dist' keys' v ≤ weight_at N dist keys v
unfolding weight_at
at_fallen (same d k) = rw (d, k) (omega arith)
at_fallen {keys' = keys'} {v = v} (lower n d k) = omega (arith, one_most (not (eqb (key_at keys' v) empty)))

pub weight_fell : {N : Net} {dist keys dist' keys' : List ℕ} → Fell N dist keys dist' keys' → weight N dist' keys' ≤ weight N dist keys
unfolding weight
weight_fell {N} {dist} {keys} {dist'} {keys'} f = sum_le (weight_at N dist' keys') (weight_at N dist keys) most_nodes (λ v l. at_fallen (f.each v))

-- a waiting node is taken
module _ (N : Net) (dist keys : List ℕ) (u : ℕ) (l : u < length keys) (waiting : key_at keys u ≢ empty) where
  here : weight_at N dist (set keys u empty) u < weight_at N dist keys u
  unfolding weight_at
  here = rw (get_or-set_same keys u empty empty l, ne_eqb (key_at keys u) empty waiting) (omega arith)

  each : (v : ℕ) → Dec (v ≡ u) → weight_at N dist (set keys u empty) v ≤ weight_at N dist keys v
  unfolding weight_at
  each v (yes e) = rw e (omega (arith, here))
  each v (no d) = rw (get_or-set_other keys u v empty empty d) (omega arith)

  pub weight_taken : u < most_nodes → weight N dist (set keys u empty) < weight N dist keys
  unfolding weight
  weight_taken n = sum_lt (weight_at N dist (set keys u empty)) (weight_at N dist keys) most_nodes (λ v m. each v (ℕ_discrete v u)) u n here
