-- Where there is room below the ceiling, an unreached node is one that no walk at all leads to, and no distance
-- passes the largest cost times the number of other nodes. Assumes nothing.
use mathlib.Core.Path.{◌≡◌, refl}
use mathlib.Core.Logic.{◌⊎◌, inl, inr}
use mathlib.Core.Bool.{true}
use Prim.Native.Nat.{ℕ, ◌+◌, ◌*◌, ◌≤◌, ◌<◌}
use native.Mathlib.Omega.{arith}
use native.Mathlib.Nat.{mul-suc, mul-le-mul_left}
use lib.Dec.{ltb, ltb→lt, lt→ltb}
use Rattle.rules.specs.Net.{Net, Legal, Roomy, Walk, along}
use Rattle.rules.specs.Fit.{Rows, Reached, Tight, Offer, Row, root, hung, bare, Fits}
use Rattle.rules.specs.Keep.{count}
use Rattle.rules.proofs.Logic.{by_size, count_lt, count_all}
use Rattle.rules.proofs.Sound.{offered_reached, root_reached}

-- how many nodes are nearer than d
unfoldable pub nearer : Net → Rows → ℕ → ℕ
unfolding count
nearer N r d = count (λ u. ltb (r.dist u) d) N.nodes

module _ (N : Net) (r : Rows) where
  -- a node that is nearer than d has fewer nearer than itself
  nearer_lt : (u d : ℕ) → u < N.nodes → r.dist u < d → nearer N r (r.dist u) < nearer N r d
  unfolding nearer
  nearer_lt u d l near = count_lt (λ x. ltb (r.dist x) (r.dist u)) (λ x. ltb (r.dist x) d) N.nodes
      (λ v m p. let q = ltb→lt (r.dist v) (r.dist u) p in lt→ltb (r.dist v) d (omega arith))
      u l (λ p. let q = ltb→lt (r.dist u) (r.dist u) p in omega arith) (lt→ltb (r.dist u) d near)

  nearer_all : (u : ℕ) → u < N.nodes → nearer N r (r.dist u) < N.nodes
  unfolding nearer
  nearer_all u l =
      let a = count_lt (λ x. ltb (r.dist x) (r.dist u)) (λ x. true) N.nodes (λ v m p. tt) u l
      (λ p. let q = ltb→lt (r.dist u) (r.dist u) p in omega arith) tt in
      omega (arith, count_all N.nodes)

-- where each reached node is at 0 or hangs on a tight link
module _ {N : Net} (L : Legal N) (room : Roomy N) {r : Rows} (up : (v : ℕ) → Reached N r v → (r.dist v ≡ 0) ⊎ Tight N r (r.parent v) v) where
  by_nearer : (v : ℕ) → Reached N r v → r.dist v ≤ N.most * nearer N r (r.dist v)
  by_nearer = by_size r.dist (λ v. Reached N r v → r.dist v ≤ N.most * nearer N r (r.dist v)) (λ v before s. at v before (up v s))
    where
      at : (v : ℕ) → ((u : ℕ) → r.dist u < r.dist v → Reached N r u → r.dist u ≤ N.most * nearer N r (r.dist u))
          → (r.dist v ≡ 0) ⊎ Tight N r (r.parent v) v → r.dist v ≤ N.most * nearer N r (r.dist v)
      at v before (inl e) = omega arith
      at v before (inr tight) =
          let u = N.start (r.parent v) in
          let near : r.dist u < r.dist v = omega (arith, tight.sum, tight.usable.costs) in
          let far = before u near tight.from_reached in
          let more = nearer_lt N r u (r.dist v) (L.starts (r.parent v) tight.usable.is_link) near in
          omega (arith, far, tight.sum, room.costs (r.parent v), mul-suc N.most (nearer N r (r.dist u)), mul-le-mul_left N.most more)

  -- no distance passes the largest cost for each other node
  pub dist_bound : (v : ℕ) → v < N.nodes → Reached N r v → r.dist v + N.most ≤ N.most * N.nodes
  dist_bound v l s =
      omega (arith, by_nearer v s, mul-suc N.most (nearer N r (r.dist v)), mul-le-mul_left N.most (nearer_all N r v l))

module _ {N : Net} (L : Legal N) (room : Roomy N) {r : Rows} (F : Fits N r) where
  hangs_on : (v : ℕ) → Reached N r v → (r.dist v ≡ 0) ⊎ Tight N r (r.parent v) v
  hangs_on v s = at (F.row v)
    where
      at : Row N r v → (r.dist v ≡ 0) ⊎ Tight N r (r.parent v) v
      at (root h) = inl h.at_zero
      at (hung h) = inr h.tight
      at (bare h) = absurd (s h.unreached)

  pub fits_bound : (v : ℕ) → v < N.nodes → Reached N r v → r.dist v + N.most ≤ N.most * N.nodes
  fits_bound = dist_bound L room hangs_on

  pub walk_reached : {v d : ℕ} → Walk N v d → Reached N r v
  walk_reached Walk.at_root = root_reached L (F.row N.root)
  walk_reached (along k u w) =
      let before = walk_reached w in
      let offer : Offer N r k (N.end k) = record {
        usable = u;
        ends_at = refl;
        from_reached = before;
        counts = omega (arith, fits_bound (N.start k) (L.starts k u.is_link) before, room.costs k, room.below_ceiling);
      } in
      offered_reached L (F.row (N.end k)) k offer
