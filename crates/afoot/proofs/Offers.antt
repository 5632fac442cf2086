-- One offer: what it does to each node, and that it keeps what is known of the distances and the links. Assumes
-- nothing.
use mathlib.Core.Path.{◌≡◌, refl, sym, ◌∙◌}
use mathlib.Core.Logic.{◌≢◌}
use mathlib.Core.List.{List}
use Prim.Native.Nat.{ℕ, ◌+◌, ◌≤◌, ◌<◌}
use native.Mathlib.Omega.{arith}
use native.Mathlib.Decide.{ℕ_discrete}
use lib.ListN.{length, set}
use lib.Seq.{get_or-set_same, get_or-set_other}
use Rattle.rules.specs.Net.{Net, Usable, along}
use Rattle.rules.specs.Columns.{Table, Proper, net_in, most_nodes}
use Rattle.rules.specs.declared.Profile.{Profile}
use Rattle.queue.specs.Queue.{empty, key_of}
use Rattle.offer.specs.Offer.{dist_at, key_at, Lined, Offered, left, taken}
use Rattle.offer.proofs.Laws.{waits_now}
use Rattle.afoot.specs.Afoot.{Orderly, Within, Seeded, Calm, Partly, Fallen, same, lower, Fell}

-- an accepted table makes such a network, whatever the numbers
pub orderly : (p : Profile) {t : Table} → Proper t → Orderly (net_in p t)
orderly p proper = record {
  few_nodes = proper.few_nodes;
  no_such_link = omega (arith, proper.few_links);
  root_is_node = proper.root_is_node;
  starts = proper.starts;
  ends = proper.ends;
  apart = proper.apart;
  order = proper.order;
}

pub start_is_node : {N : Net} → Orderly N → (k : ℕ) → k < N.links → N.start k < most_nodes
start_is_node p k l = omega (arith, p.starts k l, p.few_nodes)

pub end_is_node : {N : Net} → Orderly N → (k : ℕ) → k < N.links → N.end k < most_nodes
end_is_node p k l = omega (arith, p.ends k l, p.few_nodes)

-- ---- what an offer does to each node

pub fell_none : {N : Net} {dist keys : List ℕ} → Fell N dist keys dist keys
fell_none = record { each = λ v. same refl refl }

pub fell_then : {N : Net} {dist keys dist' keys' dist'' keys'' : List ℕ} → Fell N dist keys dist' keys' → Fell N dist' keys' dist'' keys'' → Fell N dist keys dist'' keys''
fell_then {N} {dist} {keys} {dist'} {keys'} {dist''} {keys''} f g = record { each = λ v. at v (f.each v) (g.each v) }
  where
    at : (v : ℕ) → Fallen N dist keys dist' keys' v → Fallen N dist' keys' dist'' keys'' v → Fallen N dist keys dist'' keys'' v
    at v (same d k) (same d' k') = same (d' ∙ d) (k' ∙ k)
    at v (same d k) (lower n d' k') = lower n (omega arith) k'
    at v (lower n d k) (same d' k') = lower n (omega arith) (rw d' (k' ∙ k))
    at v (lower n d k) (lower m d' k') = lower m (omega arith) k'

module _ {N : Net} {dist keys : List ℕ} (h : Lined N.mark dist keys) where
  fell_set : {end sum : ℕ} → end < most_nodes → sum < dist_at N dist end → Fell N dist keys (set dist end sum) (set keys end (key_of sum end))
  fell_set {end} {sum} is_node less = record { each = λ v. at v (ℕ_discrete v end) }
    where
      here : dist_at N (set dist end sum) end ≡ sum
      here = get_or-set_same dist end sum N.mark (omega (arith, h.long))

      key_here : key_at (set keys end (key_of sum end)) end ≡ key_of sum end
      key_here = get_or-set_same keys end (key_of sum end) empty (omega (arith, h.keys_long))

      at : (v : ℕ) → Dec (v ≡ end) → Fallen N dist keys (set dist end sum) (set keys end (key_of sum end)) v
      at v (yes e) = rw e (lower is_node (omega (arith, here)) (rw here key_here))
      at v (no d) = same (get_or-set_other dist end v sum N.mark d) (get_or-set_other keys end v (key_of sum end) empty d)

  offered_fell : {k sum : ℕ} {dist' keys' : List ℕ} → N.end k < most_nodes → Offered N k sum dist keys dist' keys' → Fell N dist keys dist' keys'
  offered_fell is_node (left enough d key) = rw (d, key) fell_none
  offered_fell is_node (taken usable less d key) = rw (d, key) (fell_set is_node less)

  -- ---- what an offer keeps

  calm_still : {dist' keys' : List ℕ} → Fell N dist keys dist' keys' → {k : ℕ} → Calm N dist keys k → Calm N dist' keys' k
  calm_still {dist'} {keys'} f {k} c =
      record { calm = λ rest near. at (f.each (N.start k)) (f.each (N.end k)) rest near }
    where
      at : Fallen N dist keys dist' keys' (N.start k) → Fallen N dist keys dist' keys' (N.end k) → key_at keys' (N.start k) ≡ empty
          → dist_at N dist' (N.start k) < N.mark → dist_at N dist' (N.end k) ≤ dist_at N dist' (N.start k) + N.cost k
      at (lower n d key) f rest near = absurd (waits_now h.mark_fits n near key rest)
      at (same d key) (same d' key') rest near = omega (arith, c.calm (sym key ∙ rest) (omega arith))
      at (same d key) (lower n d' key') rest near = omega (arith, c.calm (sym key ∙ rest) (omega arith))

-- fewer links are done
pub partly_fewer : {N : Net} {done done' : ℕ → Type 0} {dist keys : List ℕ} → ((k : ℕ) → Usable N k → done' k → done k)
    → Partly N done dist keys → Partly N done' dist keys
partly_fewer f p = record { begun = p.begun; calm = λ k u d. p.calm k u (f k u d) }

module _ {N : Net} (orderly : Orderly N) {done : ℕ → Type 0} {dist keys : List ℕ} (p : Partly N done dist keys)
    {k : ℕ} (is_link : k < N.links) {near : ℕ} (near_is : dist_at N dist (N.start k) ≡ near)
    {dist' keys' : List ℕ} (lined' : Lined N.mark dist' keys')
    (o : Offered N k (near + N.cost k) dist keys dist' keys') where
  pub link_fell : Fell N dist keys dist' keys'
  link_fell = offered_fell p.begun.lined (end_is_node orderly k is_link) o

  root_still : Fallen N dist keys dist' keys' N.root → dist_at N dist' N.root ≡ 0
  root_still (same d key) = d ∙ p.begun.root_zero
  root_still (lower n d key) = absurd (omega (arith, p.begun.root_zero))

  walks_still : Offered N k (near + N.cost k) dist keys dist' keys' → (v : ℕ)
      → dist_at N dist' v < N.mark → Within N v (dist_at N dist' v)
  walks_still (left enough d key) v l = rw d (p.begun.walks v (rw (← d) l))
  walks_still (taken usable less d key) v l = at (ℕ_discrete v (N.end k))
    where
      here : dist_at N dist' (N.end k) ≡ near + N.cost k
      here = rw d (get_or-set_same dist (N.end k) (near + N.cost k) N.mark (omega (arith, p.begun.lined.long, end_is_node orderly k is_link)))

      by_link : Within N (N.end k) (near + N.cost k)
      by_link =
          let before = p.begun.walks (N.start k) (omega (arith, p.begun.lined.most (N.end k))) in
          record { sum = before.sum + N.cost k; walk = along k usable before.walk; within = omega (arith, before.within) }

      at : Dec (v ≡ N.end k) → Within N v (dist_at N dist' v)
      at (yes e) = rw (e, here) by_link
      at (no n) =
          let still : dist_at N dist' v ≡ dist_at N dist v = rw d (get_or-set_other dist (N.end k) v (near + N.cost k) N.mark n) in
          rw still (p.begun.walks v (omega arith))

  begun_still : Seeded N dist' keys'
  begun_still = record { lined = lined'; root_zero = root_still (link_fell.each N.root); walks = walks_still o }

  -- the end has no more than was offered
  heard : Offered N k (near + N.cost k) dist keys dist' keys' → Usable N k
      → dist_at N dist' (N.end k) ≤ near + N.cost k
  heard (left enough d key) up = rw d (enough up)
  heard (taken usable less d key) up =
      let long : N.end k < length dist = omega (arith, p.begun.lined.long, end_is_node orderly k is_link) in
      rw (d, get_or-set_same dist (N.end k) (near + N.cost k) N.mark long) (omega arith)

  calm_here : Usable N k → Calm N dist' keys' k
  calm_here up = record { calm = λ rest l. at (link_fell.each (N.start k)) rest l }
    where
      at : Fallen N dist keys dist' keys' (N.start k) → key_at keys' (N.start k) ≡ empty
          → dist_at N dist' (N.start k) < N.mark
          → dist_at N dist' (N.end k) ≤ dist_at N dist' (N.start k) + N.cost k
      at (same d key) rest l = omega (arith, heard o up)
      at (lower n d key) rest l = absurd (waits_now lined'.mark_fits n l key rest)

  -- link k is done too
  pub partly_more : {done' : ℕ → Type 0} → ((j : ℕ) → done' j → j ≢ k → done j) → Partly N done' dist' keys'
  partly_more {done'} others = record { begun = begun_still; calm = λ j u d. at j u d (ℕ_discrete j k) }
    where
      at : (j : ℕ) → Usable N j → done' j → Dec (j ≡ k) → Calm N dist' keys' j
      at j u d (yes e) = rw e (calm_here (rw e at u))
      at j u d (no n) = calm_still p.begun.lined link_fell (p.calm j u (others j d n))

  -- only the end's distance is another
  pub others_still : (v : ℕ) → v ≢ N.end k → dist_at N dist' v ≡ dist_at N dist v
  others_still v n = at o
    where
      at : Offered N k (near + N.cost k) dist keys dist' keys' → dist_at N dist' v ≡ dist_at N dist v
      at (left enough d key) = rw d
      at (taken usable less d key) = rw d (get_or-set_other dist (N.end k) v (near + N.cost k) N.mark n)
