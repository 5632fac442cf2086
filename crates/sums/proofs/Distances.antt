-- What least sums say of tight links: which nodes have one and which have none. Assumes nothing.
use mathlib.Core.Path.{◌≡◌, refl}
use mathlib.Core.Logic.{◌≢◌}
use Prim.Native.Nat.{ℕ, ◌+◌, ◌≤◌, ◌<◌}
use native.Mathlib.Omega.{arith}
use Rattle.rules.specs.Net.{Net, Legal, Walk, at_root, along}
use Rattle.rules.specs.Fit.{Rows, Reached, Tight, Offer}
use Rattle.rules.specs.Keep.{Choice, keeps, takes, Smallest, Fresh, Next}
use Rattle.sums.specs.Sums.{Sums}

module _ {N : Net} (L : Legal N) (r : Rows) (S : Sums N r.dist) where
  pub root_reached : Reached N r N.root
  root_reached e = omega (arith, S.root_zero, L.mark_is_far)

  -- a walk below the ceiling leads to a reached node, and is no shorter than its distance
  no_longer : {v d : ℕ} → Walk N v d → d < N.ceiling → Reached N r v × (r.dist v ≤ d)
  no_longer Walk.at_root l = (root_reached, omega (arith, S.root_zero))
  no_longer (along {d} k u w) l =
      let before = no_longer w (omega arith) in
      (S.reaches k u before.0 (omega (arith, before.1)), omega (arith, S.no_less k u before.0 (omega (arith, before.1)), before.1))

  -- the last link of a shortest walk is tight
  last_tight : {v d : ℕ} → Walk N v d → d ≡ r.dist v → d < N.ceiling → v ≢ N.root → (k : ℕ) × Tight N r k v
  last_tight Walk.at_root e l n = absurd (n refl)
  last_tight (along {d} k u w) e l n =
      let before = no_longer w (omega arith) in
      let less = S.no_less k u before.0 (omega (arith, before.1)) in
      (k, record { usable = u; ends_at = refl; from_reached = before.0; sum = omega (arith, before.1) })

  pub some_tight : {v : ℕ} → Reached N r v → v ≢ N.root → (k : ℕ) × Tight N r k v
  some_tight {v} h n = last_tight (S.walk v h) refl (S.is_route v h) n

  pub root_not_tight : (k : ℕ) → Tight N r k N.root → ⊥
  root_not_tight k a = omega (arith, a.sum, a.usable.costs, S.root_zero)

  pub offered : {v : ℕ} (k : ℕ) → Offer N r k v → Reached N r v × (r.dist v ≤ r.dist (N.start k) + N.cost k)
  offered k o = rw (← o.ends_at) (S.reaches k o.usable o.from_reached o.counts, S.no_less k o.usable o.from_reached o.counts)

-- an update of a tree that has no links is a fresh build
module _ {N : Net} (L : Legal N) {r : Rows} {old : ℕ → ℕ} where
  pub next_fresh : ((v : ℕ) → old v ≡ N.none) → Next N r old → Fresh N r
  next_fresh none n = record { fits = n.fits; takes = λ v h. at (n.choice v h) }
    where
      at : {v : ℕ} → Choice N r old v → Smallest N r v (r.parent v)
      at {v} (keeps a e) = absurd (omega (arith, none v, a.usable.is_link, L.no_such_link))
      at (takes a s) = s
