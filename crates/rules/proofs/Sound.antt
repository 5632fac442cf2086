-- A tree fits exactly when its distances are the least sums, its parents form a tree of such paths, each reached
-- node's first link is the first on its tree path, and every other entry is empty. Assumes nothing.
use mathlib.Core.Path.{◌≡◌, refl, sym, ap, ◌∙◌, subst, subst₂}
use mathlib.Core.Logic.{◌⊎◌, inl, inr, ◌≢◌}
use mathlib.Core.List.{List, [], ◌∷◌, ◌++◌}
use Prim.Native.Nat.{ℕ, ◌+◌, ◌≤◌, ◌<◌}
use native.Mathlib.Omega.{arith}
use native.Mathlib.Decide.{ℕ_discrete, dec_lt}
use lib.ListN.{get_or}
use Rattle.rules.specs.Net.{Net, Legal, Usable, Walk, along, Least}
use Rattle.rules.specs.Fit.{Rows, total, Reached, Offer, Bare, Hung, Row, root, hung, bare, Fits, Path, by_parent, Routed, Shortest}
use Rattle.rules.proofs.Logic.{by_size}

-- ---- what a row says of its distance

module _ {N : Net} {r : Rows} where
  pub root_zero : Row N r N.root → r.dist N.root ≡ 0
  root_zero (root h) = h.at_zero
  root_zero (hung h) = absurd (h.not_root refl)
  root_zero (bare h) = absurd (h.not_root refl)

  -- a reached node other than the root hangs
  pub hangs : {v : ℕ} → Row N r v → v ≢ N.root → Reached N r v → Hung N r v
  hangs (root h) n s = absurd (n h.is_root)
  hangs (hung h) n s = h
  hangs (bare h) n s = absurd (s h.unreached)

  -- a usable link from a reached node makes its end reached, and at no more than its sum
  pub offered : {v : ℕ} → Row N r v → (k : ℕ) → Offer N r k v → r.dist v ≤ r.dist (N.start k) + N.cost k
  offered (root h) k o = omega (arith, h.at_zero)
  offered (hung h) k o = h.no_less k o
  offered (bare h) k o = absurd (h.no_offer k o)

pub walk_node : {N : Net} {v d : ℕ} → Legal N → Walk N v d → v < N.nodes
walk_node L Walk.at_root = L.root_is_node
walk_node L (along k u w) = L.ends k u.is_link

module _ {N : Net} {r : Rows} (L : Legal N) where
  pub root_reached : Row N r N.root → Reached N r N.root
  root_reached h e = omega (arith, root_zero h, L.mark_is_far)

  pub offered_reached : {v : ℕ} → Row N r v → (k : ℕ) → Offer N r k v → Reached N r v
  offered_reached (root h) k o e = omega (arith, h.at_zero, L.mark_is_far)
  offered_reached (hung h) k o e = h.reached e
  offered_reached (bare h) k o e = h.no_offer k o

-- ---- sums along paths

pub total_last : (N : Net) (ks : List ℕ) (k : ℕ) → total N (ks ++ (k ∷ [])) ≡ total N ks + N.cost k
unfolding total
total_last N [] k = omega arith
total_last N (j ∷ ks) k = let before = total_last N ks k in omega arith

-- the first of some links stays the first with more behind them
first_stays : (ks : List ℕ) (k j d : ℕ) → get_or ((ks ++ (k ∷ [])) ++ (j ∷ [])) 0 d ≡ get_or (ks ++ (k ∷ [])) 0 d
first_stays [] k j d = refl
first_stays (i ∷ ks) k j d = refl

pub path_walk : {N : Net} {r : Rows} {v : ℕ} {ks : List ℕ} → Path N r v ks → Walk N v (total N ks)
unfolding total
path_walk Path.at_root = Walk.at_root
path_walk {N} {r} (by_parent {v} {ks} n u e p) =
    subst₂ (Walk N) e (sym (total_last N ks (r.parent v))) (along (r.parent v) u (path_walk p))

pub path_unique : {N : Net} {r : Rows} {u v : ℕ} {ks ls : List ℕ} → Path N r u ks → u ≡ v → Path N r v ls → ks ≡ ls
path_unique Path.at_root e Path.at_root = refl
path_unique Path.at_root e (by_parent n u s p) = absurd (n (sym e))
path_unique (by_parent n u s p) e Path.at_root = absurd (n e)
path_unique {N} {r} (by_parent {v} {ks} n u s p) e (by_parent {v = w} {ks = ls} m t q b) =
    let before = path_unique p (ap (λ (x : ℕ). N.start (r.parent x)) e) b in
    let last = ap (λ (x : ℕ). r.parent x) e in
    cc

-- ---- a tree that fits says the least sums

module _ {N : Net} (L : Legal N) {r : Rows} (F : Fits N r) where
  -- the first link of a path with one more link is that of the path, or the link itself where the path is empty
  first_by : {u : ℕ} {ks : List ℕ} → Path N r u ks → (k : ℕ) → {f g : ℕ} → f ≡ get_or ks 0 N.none
      → (u ≡ N.root → g ≡ k) → (u ≢ N.root → g ≡ f) → g ≡ get_or (ks ++ (k ∷ [])) 0 N.none
  first_by Path.at_root k e near far = near refl
  first_by (by_parent {v} {ks} n u s p) k e near far = far n ∙ e ∙ sym (first_stays ks (r.parent v) k N.none)

  routed : (v : ℕ) → Reached N r v → Routed N r v
  unfolding total
  routed = by_size r.dist (λ v. Reached N r v → Routed N r v) (λ v before s. at v before s (F.row v))
    where
      at : (v : ℕ) → ((u : ℕ) → r.dist u < r.dist v → Reached N r u → Routed N r u) → Reached N r v → Row N r v → Routed N r v
      at v before s (root h) =
          rw h.is_root (record { links = []; path = Path.at_root; sum = sym (root_zero (F.row N.root)); first = rw (← h.is_root) h.no_first })
      at v before s (hung h) =
          let k = r.parent v in
          let up = before (N.start k) (omega (arith, h.tight.sum, h.tight.usable.costs)) h.tight.from_reached in
          record {
            links = up.links ++ (k ∷ []);
            path = by_parent h.not_root h.tight.usable h.tight.ends_at up.path;
            sum = omega (arith, total_last N up.links k, up.sum, h.tight.sum);
            first = first_by up.path k up.first h.near h.far;
          }
      at v before s (bare h) = absurd (s h.unreached)

  reached_walk : (v : ℕ) → Reached N r v → Walk N v (r.dist v)
  reached_walk v s = let way = routed v s in subst (Walk N v) way.sum (path_walk way.path)

  -- a walk below the ceiling leads to a reached node, and is no shorter than its distance
  pub no_longer : {v d : ℕ} → Walk N v d → d < N.ceiling → Reached N r v × (r.dist v ≤ d)
  no_longer Walk.at_root l = (root_reached L (F.row N.root), omega (arith, root_zero (F.row N.root)))
  no_longer (along {d} k u w) l =
      let before = no_longer w (omega arith) in
      let offer : Offer N r k (N.end k) = record { usable = u; ends_at = refl; from_reached = before.0; counts = omega (arith, before.1) } in
      (offered_reached L (F.row (N.end k)) k offer, omega (arith, offered (F.row (N.end k)) k offer, before.1))

  is_route : (v : ℕ) → Reached N r v → r.dist v < N.ceiling
  is_route v s = at (F.row v)
    where
      at : Row N r v → r.dist v < N.ceiling
      at (root h) = omega (arith, h.at_zero, L.some_route)
      at (hung h) = h.is_route
      at (bare h) = absurd (s h.unreached)

  bare_row_lem : (v : ℕ) → r.dist v ≡ N.mark → Bare N r v
  bare_row_lem v m = at (F.row v)
    where
      at : Row N r v → Bare N r v
      at (root h) = absurd (omega (arith, h.at_zero, L.mark_is_far))
      at (hung h) = absurd (h.reached m)
      at (bare h) = h

  least_sum : (v : ℕ) → Reached N r v → Least N v (r.dist v)
  least_sum v s = record { walk = reached_walk v s; least = λ e w. at e w (dec_lt e N.ceiling) }
    where
      at : (e : ℕ) → Walk N v e → Dec (e < N.ceiling) → r.dist v ≤ e
      at e w (yes l) = (no_longer w l).1
      at e w (no l) = omega (arith, is_route v s)

  no_route : (v : ℕ) → r.dist v ≡ N.mark → (d : ℕ) → Walk N v d → N.ceiling ≤ d
  no_route v m d w = at (dec_lt d N.ceiling)
    where
      at : Dec (d < N.ceiling) → N.ceiling ≤ d
      at (yes l) = absurd ((no_longer w l).0 m)
      at (no l) = omega arith

  root_parent : r.parent N.root ≡ N.none
  root_parent = at (F.row N.root)
    where
      at : Row N r N.root → r.parent N.root ≡ N.none
      at (root h) = h.no_parent
      at (hung h) = absurd (h.not_root refl)
      at (bare h) = absurd (h.not_root refl)

  pub fits_shortest : Shortest N r
  fits_shortest = record {
    least = least_sum;
    is_route = is_route;
    no_route = no_route;
    routed = routed;
    root_reached = root_reached L (F.row N.root);
    root_parent = root_parent;
    no_parent = λ v m. (bare_row_lem v m).no_parent;
    no_first = λ v m. (bare_row_lem v m).no_first;
  }

-- ---- a tree that says the least sums fits

-- where distances are least sums, the start of a path's last link has the length of the path before it
pub least_before : {N : Net} {r : Rows} → ((v : ℕ) → Reached N r v → Least N v (r.dist v)) → {u v : ℕ} {ks : List ℕ} → Path N r u ks
    → (k : ℕ) → Usable N k → N.start k ≡ u → N.end k ≡ v → Reached N r v → Reached N r (N.start k)
    → total N ks + N.cost k ≡ r.dist v → r.dist (N.start k) ≡ total N ks
least_before {N} {r} least {v = v} {ks} p k us e f s q t =
    let near = (least (N.start k) q).least (total N ks) (rw e (path_walk p)) in
    let far = (least v s).least (r.dist (N.start k) + N.cost k)
    (subst (λ (x : ℕ). Walk N x (r.dist (N.start k) + N.cost k)) f (along k us (least (N.start k) q).walk)) in
    omega arith

module _ {N : Net} (L : Legal N) {r : Rows} (S : Shortest N r) where
  -- the mark or not
  kind : (v : ℕ) → (r.dist v ≡ N.mark) ⊎ Reached N r v
  kind v = at (ℕ_discrete (r.dist v) N.mark)
    where
      at : Dec (r.dist v ≡ N.mark) → (r.dist v ≡ N.mark) ⊎ Reached N r v
      at (yes e) = inl e
      at (no n) = inr n

  offer_walk : {v : ℕ} (k : ℕ) → Offer N r k v → Walk N v (r.dist (N.start k) + N.cost k)
  offer_walk k o = subst (λ (v : ℕ). Walk N v (r.dist (N.start k) + N.cost k)) o.ends_at
      (along k o.usable (S.least (N.start k) o.from_reached).walk)

  -- the start of a path's last link is reached, at the length of the path before it
  before_last : {u v : ℕ} {ks : List ℕ} → Path N r u ks → (k : ℕ) → Usable N k → N.start k ≡ u → N.end k ≡ v → Reached N r v
      → total N ks + N.cost k ≡ r.dist v → Reached N r (N.start k) × (r.dist (N.start k) ≡ total N ks)
  before_last {v = v} {ks} p k us e f s t = at (kind (N.start k))
    where
      at : (r.dist (N.start k) ≡ N.mark) ⊎ Reached N r (N.start k) → Reached N r (N.start k) × (r.dist (N.start k) ≡ total N ks)
      at (inl m) = absurd (omega (arith, S.no_route (N.start k) m (total N ks) (rw e (path_walk p)), S.is_route v s))
      at (inr q) = (q, least_before S.least p k us e f s q t)

  hung_by_lem : (v : ℕ) → Reached N r v → v ≢ N.root → {ks : List ℕ} → Usable N (r.parent v) → N.end (r.parent v) ≡ v
      → Path N r (N.start (r.parent v)) ks → total N (ks ++ (r.parent v ∷ [])) ≡ r.dist v
      → r.first v ≡ get_or (ks ++ (r.parent v ∷ [])) 0 N.none → Hung N r v
  hung_by_lem v s n {ks} u e p t f =
      let k = r.parent v in
      let up = before_last p k u refl e s (sym (total_last N ks k) ∙ t) in
      let way = S.routed (N.start k) up.0 in
      let same = path_unique way.path refl p in
      record {
        is_node = walk_node L (S.least v s).walk;
        not_root = n;
        reached = s;
        is_route = S.is_route v s;
        tight = record { usable = u; ends_at = e; from_reached = up.0; sum = omega (arith, up.1, total_last N ks k) };
        no_less = λ j o. (S.least v s).least (r.dist (N.start j) + N.cost j) (offer_walk j o);
        near = λ q. f ∙ near_first p q;
        far = λ q. f ∙ far_first p q (way.first ∙ ap (λ (l : List ℕ). get_or l 0 N.none) same);
      }
    where
      near_first : {w : ℕ} {ls : List ℕ} → Path N r w ls → w ≡ N.root → get_or (ls ++ (r.parent v ∷ [])) 0 N.none ≡ r.parent v
      near_first Path.at_root q = refl
      near_first (by_parent m a b c) q = absurd (m q)

      far_first : {w : ℕ} {ls : List ℕ} → Path N r w ls → w ≢ N.root → r.first w ≡ get_or ls 0 N.none → get_or (ls ++ (r.parent v ∷ [])) 0 N.none ≡ r.first w
      far_first Path.at_root q g = absurd (q refl)
      far_first (by_parent {v = w} {ks = ls} m a b c) q g = first_stays ls (r.parent w) (r.parent v) N.none ∙ sym g

  routed_row : (v : ℕ) → Reached N r v → {ks : List ℕ} → Path N r v ks → total N ks ≡ r.dist v → r.first v ≡ get_or ks 0 N.none → Row N r v
  unfolding total
  routed_row v s Path.at_root t f = root (record { is_root = refl; at_zero = sym t; no_parent = S.root_parent; no_first = f })
  routed_row v s (by_parent n u e p) t f = hung (hung_by_lem v s n u e p t f)

  row : (v : ℕ) → Row N r v
  row v = at (kind v)
    where
      at : (r.dist v ≡ N.mark) ⊎ Reached N r v → Row N r v
      at (inl m) = bare (record {
        not_root = λ e. S.root_reached (rw (← e) m);
        unreached = m;
        no_parent = S.no_parent v m;
        no_first = S.no_first v m;
        no_offer = λ k o. omega (arith, S.no_route v m (r.dist (N.start k) + N.cost k) (offer_walk k o), o.counts);
      })
      at (inr s) = let way = S.routed v s in routed_row v s way.path way.sum way.first

  pub shortest_fits : Fits N r
  shortest_fits = record { row = row }
