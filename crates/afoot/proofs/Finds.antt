-- What is known of the links found stays known with each offer and each node that is taken, and comes to each node's
-- smallest tight link. Assumes nothing.
use mathlib.Core.Path.{◌≡◌, refl, sym, ◌∙◌}
use mathlib.Core.Logic.{◌≢◌}
use mathlib.Core.List.{List}
use Prim.Native.Nat.{ℕ, ◌+◌, ◌≤◌, ◌<◌}
use native.Mathlib.Omega.{arith}
use native.Mathlib.Decide.{ℕ_discrete}
use lib.ListN.{length, set, length-set}
use lib.Seq.{get_or-set_same, get_or-set_other}
use Rattle.rules.specs.Net.{Net, Usable}
use Rattle.rules.specs.Fit.{Tight}
use Rattle.rules.specs.Columns.{most_nodes}
use Rattle.level.specs.Level.{Level}
use Rattle.queue.specs.Queue.{empty}
use Rattle.offer.specs.Offer.{dist_at, key_at, found_at, Lined, Offered, left, taken, Noted, passed, written, Lowered}
use Rattle.offer.proofs.Laws.{waits_now}
use Rattle.afoot.specs.Afoot.{Orderly, Every, NotFrom, Partly, Settled, Fallen, same, lower}
use Rattle.afoot.specs.Finding.{Carries, Brings, Moved, Yields, Finding, Found, hung_by, GoesOn, Comes}
use Rattle.afoot.proofs.Offers.{link_fell, others_still, end_is_node}

-- ---- one offer

-- what an offer over link k does to node v
data Hears (N : Net) (k near : ℕ) (dist found dist' found' : List ℕ) (v : ℕ) : Type 0 where
  unmoved : dist_at N dist' v ≡ dist_at N dist v → found_at N found' v ≡ found_at N found v → Hears N k near dist found dist' found' v
  told : v ≡ N.end k → Usable N k → near + N.cost k < N.mark → dist_at N dist' v ≡ near + N.cost k
      → near + N.cost k ≤ dist_at N dist v → found_at N found' v ≡ k
      → (near + N.cost k ≡ dist_at N dist v → k ≤ found_at N found v) → Hears N k near dist found dist' found' v

-- a node keeps its distance, and others may fall
pub carries_still : {N : Net} {dist dist' : List ℕ} {k v : ℕ} → ((u : ℕ) → dist_at N dist' u ≤ dist_at N dist u) → dist_at N dist' v ≡ dist_at N dist v
    → Carries N dist k v → Carries N dist' k v
carries_still {N} {k = k} down still c =
    let less = down (N.start k) in
    record { usable = c.usable; ends_at = c.ends_at; reached = omega (arith, c.reached); enough = omega (arith, c.enough) }

module _ {N : Net} (orderly : Orderly N) {done : ℕ → Type 0} {dist keys : List ℕ} (p : Partly N done dist keys)
    {k : ℕ} (is_link : k < N.links) {near : ℕ} (near_is : dist_at N dist (N.start k) ≡ near)
    {dist' keys' : List ℕ} (lined' : Lined N.mark dist' keys') (o : Offered N k (near + N.cost k) dist keys dist' keys')
    {found found' : List ℕ} (long : length found ≡ most_nodes) (n : Noted N k (near + N.cost k) dist found found') where
  hears : (v : ℕ) → Hears N k near dist found dist' found' v
  hears v = at (ℕ_discrete v (N.end k)) o n
    where
      at : Dec (v ≡ N.end k) → Offered N k (near + N.cost k) dist keys dist' keys' → Noted N k (near + N.cost k) dist found found'
          → Hears N k near dist found dist' found' v
      at (no d) o (passed e f) = unmoved (others_still orderly p is_link near_is lined' o v d) (rw f)
      at (no d) o (written u m l e f) =
          unmoved (others_still orderly p is_link near_is lined' o v d) (rw f (get_or-set_other found (N.end k) v k N.none d))
      at (yes q) (left enough d key) (passed e f) = unmoved (rw d) (rw f)
      at (yes q) (left enough d key) (written u m l e f) =
          rw q (told refl u m (rw d (omega (arith, enough u))) l (rw f (get_or-set_same found (N.end k) k N.none (omega (arith, long, end_is_node orderly k is_link)))) e)
      at (yes q) (taken u less d key) (passed e f) = absurd (omega (arith, e u))
      at (yes q) (taken u less d key) (written u' m l e f) =
          let node = end_is_node orderly k is_link in
          let sum = near + N.cost k in
          rw q (told refl u m (rw d (get_or-set_same dist (N.end k) sum N.mark (omega (arith, p.begun.lined.long))))
          l (rw f (get_or-set_same found (N.end k) k N.none (omega (arith, long)))) e)

  start_still : dist_at N dist' (N.start k) ≡ near
  start_still = others_still orderly p is_link near_is lined' o (N.start k) (orderly.apart k is_link) ∙ near_is

  down : (v : ℕ) → dist_at N dist' v ≤ dist_at N dist v
  down v = at ((link_fell orderly p is_link near_is lined' o).each v)
    where
      at : Fallen N dist keys dist' keys' v → dist_at N dist' v ≤ dist_at N dist v
      at (same d key) = omega arith
      at (lower n d key) = omega arith

  module _ {old : List ℕ} (f : Finding N done old dist keys found) where
    brings_now : (v : ℕ) → found_at N found' v ≢ N.none → Brings N dist' (found_at N found' v) v
    brings_now v h = at (hears v)
      where
        at : Hears N k near dist found dist' found' v → Brings N dist' (found_at N found' v) v
        at (unmoved d e) =
            let before = f.brings v (rw (← e) h) in
            rw e (record { comes = omega (arith, before.comes); carries = carries_still down d before.carries })
        at (told q u m d l e i) =
            rw e
            (record {
              comes = omega arith;
              carries = record { usable = u; ends_at = sym q; reached = omega (arith, start_still); enough = omega (arith, start_still) };
            })

    some_now : (v : ℕ) → Moved N old dist' v → found_at N found' v ≢ N.none
    some_now v moved = at (hears v)
      where
        at : Hears N k near dist found dist' found' v → found_at N found' v ≢ N.none
        at (unmoved d e) = rw e (f.some v (omega arith))
        at (told q u m d l e i) = λ none. omega (arith, orderly.no_such_link)

    -- where link k offers just its end's distance, and the end has moved, no larger link is found
    yields_here : Usable N k → Lowered N k (near + N.cost k) dist found' → Yields N old dist' keys' found' k
    yields_here u low = record { yields = λ rest reached tight moved. at tight moved (hears (N.end k)) }
      where
        at : dist_at N dist' (N.start k) + N.cost k ≡ dist_at N dist' (N.end k) → Moved N old dist' (N.end k)
            → Hears N k near dist found dist' found' (N.end k) → found_at N found' (N.end k) ≤ k
        at tight moved (unmoved d e) =
            let here = (f.brings (N.end k) (f.some (N.end k) (omega arith))).comes in
            low.lowered u (omega (arith, start_still)) (omega (arith, start_still))
        at tight moved (told q u m d l e i) = omega arith

    yields_still : (j : ℕ) → Usable N j → done j → Yields N old dist' keys' found' j
    yields_still j u d =
        record { yields = λ rest reached tight moved. at rest reached tight moved ((link_fell orderly p is_link near_is lined' o).each (N.start j)) (hears (N.end j)) }
      where
        at : key_at keys' (N.start j) ≡ empty → dist_at N dist' (N.start j) < N.mark
            → dist_at N dist' (N.start j) + N.cost j ≡ dist_at N dist' (N.end j)
            → Moved N old dist' (N.end j) → Fallen N dist keys dist' keys' (N.start j)
            → Hears N k near dist found dist' found' (N.end j) → found_at N found' (N.end j) ≤ j
        at rest reached tight moved (lower n less key) h = absurd (waits_now lined'.mark_fits n reached key rest)
        at rest reached tight moved (same s key) (unmoved s' e) =
            omega (arith, (f.yields j u d).yields (sym key ∙ rest) (omega arith) (omega arith) (omega arith))
        at rest reached tight moved (same s key) (told q v m s' l e i) =
            let no_less = (p.calm j u d).calm (sym key ∙ rest) (omega arith) in
            omega (arith, i (omega arith), (f.yields j u d).yields (sym key ∙ rest) (omega arith) (omega arith) (omega arith))

    finding_more : Lowered N k (near + N.cost k) dist found' → {done' : ℕ → Type 0} → ((j : ℕ) → done' j → j ≢ k → done j) → Finding N done' old dist' keys' found'
    finding_more low {done'} others =
        record { fell = λ v. omega (arith, down v, f.fell v); brings = brings_now; some = some_now; yields = λ j u d. at j u d (ℕ_discrete j k) }
      where
        at : (j : ℕ) → Usable N j → done' j → Dec (j ≡ k) → Yields N old dist' keys' found' j
        at j u d (yes e) = rw e (yields_here (rw e at u) low)
        at j u d (no n) = yields_still j u (others j d n)

  noted_long : length found' ≡ most_nodes
  noted_long = at n
    where
      at : Noted N k (near + N.cost k) dist found found' → length found' ≡ most_nodes
      at (passed e f) = rw f long
      at (written u m l e f) = rw f (length-set found (N.end k) k ∙ long)

  -- link k is done too
  pub on_more : {done₀ : ℕ → Type 0} {dist₀ keys₀ found₀ : List ℕ} → GoesOn N done₀ dist₀ keys₀ found₀ done dist keys found
      → {done' : ℕ → Type 0} → ((j : ℕ) → done' j → j ≢ k → done j)
      → Lowered N k (near + N.cost k) dist found'
      → GoesOn N done₀ dist₀ keys₀ found₀ done' dist' keys' found'
  on_more g others l = record { long = noted_long; on = λ old f. finding_more (g.on old f) l others }

-- ---- what is done

finding_fewer : {N : Net} {done done' : ℕ → Type 0} {old dist keys found : List ℕ} → ((k : ℕ) → Usable N k → done' k → done k)
    → Finding N done old dist keys found → Finding N done' old dist keys found
finding_fewer less f = record { fell = f.fell; brings = f.brings; some = f.some; yields = λ k u d. f.yields k u (less k u d) }

pub on_none : {N : Net} {done : ℕ → Type 0} {dist keys found : List ℕ} → length found ≡ most_nodes → GoesOn N done dist keys found done dist keys found
on_none long = record { long = long; on = λ old f. f }

pub on_fewer : {N : Net} {done₀ done done' : ℕ → Type 0} {dist₀ keys₀ found₀ dist keys found : List ℕ}
    → ((k : ℕ) → Usable N k → done' k → done k) → GoesOn N done₀ dist₀ keys₀ found₀ done dist keys found
    → GoesOn N done₀ dist₀ keys₀ found₀ done' dist keys found
on_fewer less g = record { long = g.long; on = λ old f. finding_fewer less (g.on old f) }

pub on_then : {N : Net} {done₀ done done' : ℕ → Type 0} {dist₀ keys₀ found₀ dist keys found dist' keys' found' : List ℕ}
    → GoesOn N done₀ dist₀ keys₀ found₀ done dist keys found → GoesOn N done dist keys found done' dist' keys' found'
    → GoesOn N done₀ dist₀ keys₀ found₀ done' dist' keys' found'
on_then g h = record { long = h.long; on = λ old f. h.on old (g.on old f) }

-- u is taken: of the links, only those that leave it aren't done
pub on_taken : {N : Net} {dist keys found : List ℕ} {u : ℕ} {keys' : List ℕ} → keys' ≡ set keys u empty → length found ≡ most_nodes
    → GoesOn N Every dist keys found (NotFrom N u) dist keys' found
on_taken {N} {dist} {keys} {found} {u} {keys'} r long = record { long = long; on = λ old f. on old f }
  where
    other_key : (v : ℕ) → v ≢ u → key_at keys' v ≡ key_at keys v
    other_key v d = rw r (get_or-set_other keys u v empty empty d)

    on : (old : List ℕ) → Finding N Every old dist keys found → Finding N (NotFrom N u) old dist keys' found
    on old f =
        record {
          fell = f.fell;
          brings = f.brings;
          some = f.some;
          yields = λ k ok apart. record {
            yields = λ rest. (f.yields k ok tt).yields (sym (other_key (N.start k) apart) ∙ rest);
          };
        }

-- ---- how it starts and ends

-- nothing has moved, and no link is found
pub finding_none : {N : Net} {done : ℕ → Type 0} {dist keys found : List ℕ} → ((v : ℕ) → found_at N found v ≡ N.none) → Finding N done dist dist keys found
finding_none none =
    record {
      fell = λ v. omega arith;
      brings = λ v some. absurd (some (none v));
      some = λ v moved. absurd (omega arith);
      yields = λ k u d. record { yields = λ rest reached tight moved. absurd (omega arith) };
    }

-- at the end a link that carries a reached node is tight
pub carries_tight : {N : Net} → Level N → {dist keys : List ℕ} {k v : ℕ} (parent first : ℕ → ℕ) → Settled N dist keys → Brings N dist k v
    → Tight N (record { dist = λ u. dist_at N dist u; parent = parent; first = first }) k v
carries_tight {N} level {dist} {k = k} {v = v} parent first s b =
    let c = b.carries in
    let reached : dist_at N dist (N.start k) ≢ N.mark = λ e. omega (arith, c.reached) in
    let no_less : dist_at N dist v ≤ dist_at N dist (N.start k) + N.cost k =
    rw (← c.ends_at) (s.sums.no_less k c.usable reached (omega (arith, b.comes, c.enough, level.level))) in
    record { usable = c.usable; ends_at = c.ends_at; from_reached = reached; sum = omega (arith, c.enough) }

module _ {N : Net} (level : Level N) {dist keys : List ℕ} (s : Settled N dist keys) {old found : List ℕ}
    (f : Finding N Every old dist keys found) where
  found_all : Found N old dist found
  found_all =
      record {
        fell = f.fell;
        reached = λ v some. (f.brings v some).comes;
        tight = λ v some. carries_tight level (found_at N found) (found_at N found) s (f.brings v some);
        smallest = λ v moved. record {
          tight = carries_tight level (found_at N found) (found_at N found) s (f.brings v (f.some v moved));
          smallest = λ j a. least v moved j a;
        };
      }
    where
      least : (v : ℕ) → Moved N old dist v → (j : ℕ) → Tight N (hung_by N dist found) j v → found_at N found v ≤ j
      least v moved j a =
          let e = a.ends_at in
          let from : dist_at N dist (N.start j) < N.mark = omega (arith, a.from_reached, s.lined.most (N.start j)) in
          rw (← e) ((f.yields j a.usable tt).yields (s.none_waits (N.start j)) from (rw e a.sum) (rw e moved))

pub comes : {N : Net} → Level N → {dist₀ keys₀ found₀ dist keys found : List ℕ} → Settled N dist keys
    → GoesOn N Every dist₀ keys₀ found₀ Every dist keys found → Comes N dist₀ keys₀ found₀ dist found
comes level s g = record { long = g.long; comes = λ old f. found_all level s (g.on old f) }
