-- Where a network is ample, it makes no difference that the mark is taken for the ceiling: a tree fits the one as it fits
-- the other, and what is chosen in the one is chosen in the other. Assumes nothing.
use mathlib.Core.Path.{refl}
use Prim.Native.Nat.{ℕ, ◌+◌, ◌≤◌, ◌<◌}
use native.Mathlib.Omega.{arith}
use Rattle.rules.specs.Net.{Net, Legal, Roomy, Usable}
use Rattle.rules.specs.Fit.{Rows, Tight, Offer, Hung, Row, root, hung, bare, Fits}
use Rattle.rules.specs.Keep.{Smallest, Choice, keeps, takes, Fresh, Next}
use Rattle.rules.specs.Columns.{Table, Proper, net_of}
use Rattle.rules.specs.Demands.{SixteenBit}
use Rattle.rules.proofs.Judged.{roomy}
use Rattle.rules.proofs.Room.{fits_bound}
use Rattle.level.specs.Level.{Level, level_net, Ample}

-- an accepted table of 16-bit costs
pub ample : {t : Table} → Proper t → SixteenBit t.costs → Ample (net_of t)
ample proper costs = record { room = roomy proper costs; high = omega arith; mark_fits = omega arith }

pub level : {N : Net} → Legal N → Ample N → Level (level_net N)
level L ample = record { level = refl; mark_is_far = L.mark_is_far; mark_fits = ample.mark_fits }

-- usable and tight links are the same, and offers differ by what counts
module _ {N : Net} where
  usable_down : {k : ℕ} → Usable N k → Usable (level_net N) k
  usable_down u = record { is_link = u.is_link; costs = u.costs; open_is = u.open_is }

  usable_up : {k : ℕ} → Usable (level_net N) k → Usable N k
  usable_up u = record { is_link = u.is_link; costs = u.costs; open_is = u.open_is }

module _ {N : Net} {r : Rows} where
  tight_down : {k v : ℕ} → Tight N r k v → Tight (level_net N) r k v
  tight_down a = record { usable = usable_down a.usable; ends_at = a.ends_at; from_reached = a.from_reached; sum = a.sum }

  tight_up : {k v : ℕ} → Tight (level_net N) r k v → Tight N r k v
  tight_up a = record { usable = usable_up a.usable; ends_at = a.ends_at; from_reached = a.from_reached; sum = a.sum }

  offer_down : {k v : ℕ} → Offer N r k v → r.dist (N.start k) + N.cost k < N.mark → Offer (level_net N) r k v
  offer_down o counts = record { usable = usable_down o.usable; ends_at = o.ends_at; from_reached = o.from_reached; counts = counts }

  offer_up : N.mark ≤ N.ceiling → {k v : ℕ} → Offer (level_net N) r k v → Offer N r k v
  offer_up high o = record { usable = usable_up o.usable; ends_at = o.ends_at; from_reached = o.from_reached; counts = omega (arith, o.counts) }

  smallest_up : {k v : ℕ} → Smallest (level_net N) r v k → Smallest N r v k
  smallest_up s = record { tight = tight_up s.tight; smallest = λ j a. s.smallest j (tight_down a) }

  -- ---- down: no distance is above the mark

  module _ (high : N.mark ≤ N.ceiling) (most : (v : ℕ) → r.dist v ≤ N.mark) where
    row_down : {v : ℕ} → Row N r v → Row (level_net N) r v
    row_down (root h) = root (record { is_root = h.is_root; at_zero = h.at_zero; no_parent = h.no_parent; no_first = h.no_first })
    row_down {v} (hung h) =
        hung (record {
          is_node = h.is_node;
          not_root = h.not_root;
          reached = h.reached;
          is_route = omega (arith, most v, h.reached);
          tight = tight_down h.tight;
          no_less = λ k o. h.no_less k (offer_up high o);
          near = h.near;
          far = h.far;
        })
    row_down (bare b) =
        bare (record {
          not_root = b.not_root;
          unreached = b.unreached;
          no_parent = b.no_parent;
          no_first = b.no_first;
          no_offer = λ k o. b.no_offer k (offer_up high o);
        })

    pub fits_down : Fits N r → Fits (level_net N) r
    fits_down f = record { row = λ v. row_down (f.row v) }

  -- ---- up: by counting, no sum from a reached node comes up to the mark

  module _ (L : Legal N) (ample : Ample N) (fits : Fits (level_net N) r) where
    level_legal : Legal (level_net N)
    level_legal = record {
      root_is_node = L.root_is_node;
      starts = L.starts;
      ends = L.ends;
      no_such_link = L.no_such_link;
      some_route = L.mark_is_far;
      mark_is_far = L.mark_is_far;
    }

    level_room : Roomy (level_net N)
    level_room = record { costs = ample.room.costs; below_ceiling = ample.room.below_mark; below_mark = ample.room.below_mark }

    -- no usable link from a reached node has a sum up to the mark
    counts : {k v : ℕ} → Offer N r k v → r.dist (N.start k) + N.cost k < N.mark
    counts {k} o =
        let bound = fits_bound level_legal level_room fits (N.start k) (L.starts k o.usable.is_link) o.from_reached in
        omega (arith, bound, ample.room.costs k, ample.room.below_mark)

    row_up : {v : ℕ} → Row (level_net N) r v → Row N r v
    row_up (root h) = root (record { is_root = h.is_root; at_zero = h.at_zero; no_parent = h.no_parent; no_first = h.no_first })
    row_up (hung h) =
        hung (record {
          is_node = h.is_node;
          not_root = h.not_root;
          reached = h.reached;
          is_route = omega (arith, h.is_route, ample.high);
          tight = tight_up h.tight;
          no_less = λ k o. h.no_less k (offer_down o (counts o));
          near = h.near;
          far = h.far;
        })
    row_up (bare b) =
        bare (record {
          not_root = b.not_root;
          unreached = b.unreached;
          no_parent = b.no_parent;
          no_first = b.no_first;
          no_offer = λ k o. b.no_offer k (offer_down o (counts o));
        })

    hung_down : {v : ℕ} → Hung N r v → Hung (level_net N) r v
    hung_down {v} h = at (fits.row v)
      where
        at : Row (level_net N) r v → Hung (level_net N) r v
        at (root q) = absurd (h.not_root q.is_root)
        at (hung q) = q
        at (bare q) = absurd (h.reached q.unreached)

    fits_up : Fits N r
    fits_up = record { row = λ v. row_up (fits.row v) }

  module _ (L : Legal N) (ample : Ample N) where
    pub fresh_up : Fresh (level_net N) r → Fresh N r
    fresh_up f =
        record { fits = fits_up L ample f.fits; takes = λ v h. smallest_up (f.takes v (hung_down L ample f.fits h)) }

    pub next_up : {old : ℕ → ℕ} → Next (level_net N) r old → Next N r old
    next_up {old} n = record { fits = fits_up L ample n.fits; choice = λ v h. at (n.choice v (hung_down L ample n.fits h)) }
      where
        at : {v : ℕ} → Choice (level_net N) r old v → Choice N r old v
        at (keeps a e) = keeps (tight_up a) e
        at (takes f s) = takes (λ a. f (tight_down a)) (smallest_up s)
