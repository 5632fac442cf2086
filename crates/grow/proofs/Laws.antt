-- What the parts hand on to each other. Assumes nothing.
use mathlib.Core.Path.{◌≡◌, refl, sym, ◌∙◌}
use mathlib.Core.Logic.{inl, inr, ◌≢◌}
use mathlib.Core.Bool.{Bool, true, false, not}
use mathlib.Core.List.{List}
use Prim.Native.Nat.{ℕ, ◌+◌, ◌≤◌, ◌<◌}
use native.Mathlib.Omega.{arith}
use native.Mathlib.Decide.{ℕ_discrete, dec_lt}
use lib.ListN.{length, get_or, replicate}
use Rattle.rules.specs.Net.{Net, Legal, Usable}
use Rattle.rules.specs.Fit.{Tight, Row, root, hung, bare}
use Rattle.rules.specs.Keep.{Smallest}
use Rattle.rules.specs.Columns.{Table, Arrays, Proper, arrays, net_in, rows_in, most_nodes, no_link, with_costs}
use Rattle.rules.specs.declared.Profile.{Profile}
use Rattle.rules.proofs.Logic.{true_false}
use Rattle.basics.proofs.Arrays.{filled, leaving}
use Rattle.sums.proofs.Distances.{root_not_tight, next_fresh}
use Rattle.level.specs.Level.{Level, leveled, Ample}
use Rattle.level.proofs.Laws as leveling
use Rattle.queue.specs.Queue.{empty, NoneWaits}
use Rattle.firsts.specs.FirstLinks.{FirstBy, Standing}
use Rattle.firsts.proofs.Laws.{standing_firsts}
use Rattle.keep.specs.Kept.{Holds, AllKept, StandingLinks}
use Rattle.whole.proofs.Whole.{Hangable, Hanged, tight_holds, holds_tight, Best, finds, lacks, AllBest, AllPicked, all_picked, on_old, on_none, Picked, picked_rising, hanged}
use Rattle.offer.specs.Offer.{dist_at, key_at, found_at, Lined}
use Rattle.offer.proofs.Laws.{waits_now}
use Rattle.afoot.specs.Afoot.{Every, Untouched, Calm, Partly, Settled, Fallen, same, lower, Fell}
use Rattle.afoot.specs.Finding.{Moved, Found, hung_by, GoesOn, Heard, Comes, CalmOr}
use Rattle.afoot.proofs.Finds.{finding_none, carries_still, carries_tight}
use Rattle.afoot.proofs.Heard.{heard_fewer, heard_then}
use Rattle.afoot.proofs.Rounds.{lined_none, Alone, settled}
use Rattle.lift.specs.Loose as loose
use Rattle.lift.specs.Loose.{parent_at, Rooted, Parents, Stands, StandApart, Liftable, Lifted, Fate, stays, goes, Fates, LiftedRows, none, some}
use Rattle.grow.proofs.Open.{Alike, alike}
use Rattle.grow.specs.Grown.{Grown, Old, Fitted, Regrown, AllCarried, Apart, Begun, Reseeded, still, moves}

-- ---- an accepted table's network, and the numbers

pub level_legal : (p : Profile) {t : Table} → Proper t → Level (net_in p t) → Legal (net_in p t)
level_legal p proper level = record {
  root_is_node = proper.root_is_node;
  starts = proper.starts;
  ends = proper.ends;
  no_such_link = omega (arith, proper.few_links);
  some_route = omega (arith, level.level, level.mark_is_far);
  mark_is_far = level.mark_is_far;
}

pub ample_legal : (p : Profile) {t : Table} → Proper t → Ample (net_in p t) → Legal (net_in p t)
ample_legal p proper ample = record {
  root_is_node = proper.root_is_node;
  starts = proper.starts;
  ends = proper.ends;
  no_such_link = omega (arith, proper.few_links);
  some_route = omega (arith, ample.room.below_ceiling);
  mark_is_far = omega (arith, ample.room.below_mark);
}

-- ---- an old tree and an empty queue

module _ (p : Profile) {t : Table} {tree : Arrays} where
  pub ready : Level (net_in p t) → Old p t tree → Liftable (net_in p t) tree.dist (replicate 256 empty)
  ready level o = record { lined = lined_none level.mark_fits o.whole.dist o.most; root_zero = o.root_zero; none_waits = filled 256 empty }

  pub rooted : Old p t tree → Rooted (net_in p t) tree.parent
  rooted o = record { long = o.whole.parent; no_parent = o.root_parent }

module _ (p : Profile) {t : Table} {rows : List ℕ} {tree : Arrays} (f : Fitted p t rows tree) where
  -- the network, and the one that the tree fitted
  abbrev N : Net
  N = net_in p t

  abbrev M : Net
  M = net_in p (with_costs t f.costs)

  still_alike : (k : ℕ) → Untouched N rows 0 k → Alike M N k
  still_alike k apart = alike t f.costs rows f.same p k apart

  usable_before : (k : ℕ) → Untouched N rows 0 k → Usable N k → Usable M k
  usable_before k apart u =
      let e = still_alike k apart in
      record { is_link = u.is_link; costs = omega (arith, e.cost, u.costs); open_is = e.is_open ∙ u.open_is }

  usable_still : (k : ℕ) → Untouched N rows 0 k → Usable M k → Usable N k
  usable_still k apart u =
      let e = still_alike k apart in
      record { is_link = u.is_link; costs = omega (arith, e.cost, u.costs); open_is = sym e.is_open ∙ u.open_is }

  pub parents : Parents N tree.parent
  parents = record { rooted = rooted p f.old; ends_at = λ v has. at has (f.fits.row v) }
    where
      at : {v : ℕ} → parent_at N tree.parent v ≢ no_link → Row M (rows_in p tree) v → N.end (parent_at N tree.parent v) ≡ v
      at has (root r) = absurd (has r.no_parent)
      at has (hung h) = h.tight.ends_at
      at has (bare b) = absurd (has b.no_parent)

  module _ (level : Level N) where
    -- a node whose parent link no row touches is carried as before
    pub stand_apart : StandApart N tree.parent rows 0 tree.dist (replicate 256 empty)
    stand_apart =
        let r = ready p level f.old in
        record { lined = r.lined; root_zero = r.root_zero; root_idle = r.none_waits t.root; standing = λ v u. at u (f.fits.row v) }
      where
        at : {v : ℕ} → Untouched N rows 0 (parent_at N tree.parent v) → Row M (rows_in p tree) v
            → Stands N tree.parent tree.dist (replicate 256 empty) v
        at u (root r) = loose.root r.is_root
        at u (bare b) = loose.bare b.unreached
        at {v} u (hung h) =
            let k = parent_at N tree.parent v in
            let tight = h.tight in
            loose.carried (record {
              usable = usable_still k u tight.usable;
              ends_at = tight.ends_at;
              reached = omega (arith, tight.from_reached, f.old.most (N.start k));
              enough = omega (arith, tight.sum, (still_alike k u).cost);
            })

    -- a link that no row touches offers nothing less than before
    no_less : (k : ℕ) → Usable N k → Untouched N rows 0 k → dist_at N tree.dist (N.start k) < N.mark
        → dist_at N tree.dist (N.end k) ≤ dist_at N tree.dist (N.start k) + N.cost k
    no_less k u apart near = at (f.fits.row (N.end k)) (dec_lt (dist_at N tree.dist (N.start k) + M.cost k) N.mark)
      where
        cost : M.cost k ≡ N.cost k
        cost = (still_alike k apart).cost

        usable : Usable M k
        usable = usable_before k apart u

        at : Row M (rows_in p tree) (N.end k) → Dec (dist_at N tree.dist (N.start k) + M.cost k < N.mark)
            → dist_at N tree.dist (N.end k) ≤ dist_at N tree.dist (N.start k) + N.cost k
        at r (no far) = omega (arith, cost, f.old.most (N.end k))
        at (root r) (yes l) = omega (arith, r.at_zero)
        at (hung h) (yes l) =
            omega (arith, cost, h.no_less k (record { usable = usable; ends_at = refl; from_reached = λ e. omega arith; counts = omega (arith, level.level) }))
        at (bare b) (yes l) =
            absurd (b.no_offer k (record { usable = usable; ends_at = refl; from_reached = λ e. omega arith; counts = omega (arith, level.level) }))

    -- after lifting, a link that no row touches is calm, or leads to a lifted node
    pub lifted_apart : {dist first keys : List ℕ} {lifted : Bool} → LiftedRows N tree.dist tree.first dist first lifted
        → Apart N rows dist keys lifted first
    lifted_apart {keys = keys} (none d e) = record { apart = λ k u apart. inl (rw d (record { calm = λ rest near. no_less k u apart near })) }
    lifted_apart {dist = dist} {first = first} {keys = keys} (some fates) = record { apart = λ k u apart. by k u apart (fates.each (N.end k)) }
      where
        start : (k : ℕ) → Usable N k → Untouched N rows 0 k → Fate N tree.dist dist first (N.start k)
            → dist_at N dist (N.end k) ≡ dist_at N tree.dist (N.end k) → dist_at N dist (N.start k) < N.mark
            → dist_at N dist (N.end k) ≤ dist_at N dist (N.start k) + N.cost k
        start k u apart (stays s) e near = omega (arith, no_less k u apart (omega arith))
        start k u apart (goes s g) e near = absurd (omega arith)

        by : (k : ℕ) → Usable N k → Untouched N rows 0 k → Fate N tree.dist dist first (N.end k) → CalmOr N dist keys true first k
        by k u apart (stays e) = inl (record { calm = λ rest near. start k u apart (fates.each (N.start k)) e near })
        by k u apart (goes e g) = inr (refl, g)

-- ---- seeds of an old tree

module _ {N : Net} {dist first dist' first' : List ℕ} where
  pub not_lifted : {lifted : Bool} → LiftedRows N dist first dist' first' lifted → lifted ≡ false → (dist' ≡ dist) × (first' ≡ first)
  not_lifted (none d e) q = (d, e)
  not_lifted (some fates) q = absurd (true_false q)

  pub lifted_long : {lifted : Bool} → LiftedRows N dist first dist' first' lifted → length first ≡ most_nodes → length first' ≡ most_nodes
  lifted_long (none d e) long = rw e long
  lifted_long (some fates) long = fates.long

pub carried_all : {N : Net} {parent dist keys : List ℕ} → Lifted N parent dist keys → AllCarried N parent dist
carried_all l = record { carried = l.carried }

-- every link is offered, and none was found before
pub seeded : {N : Net} {parent dist keys dist' keys' found' : List ℕ} {done : ℕ → Type 0} → AllCarried N parent dist
    → Partly N Every dist' keys' → GoesOn N done dist keys (replicate 256 N.none) Every dist' keys' found'
    → Begun N parent dist' keys' found'
seeded {N} {dist = dist} c p g =
    record { stood = dist; carried = c; afoot = p; finding = g.on dist (finding_none (filled 256 N.none)); found_long = g.long }

-- the links into lifted nodes are offered, then those that the rows touch
pub heard_both : {N : Net} {rows dist keys first found dist' keys' found' dist'' keys'' found'' : List ℕ} {lifted : Bool}
    → Apart N rows dist keys lifted first → Heard N (Calm N dist keys) dist keys found (CalmOr N dist keys lifted first) dist' keys' found'
    → Heard N (Untouched N rows 0) dist' keys' found' Every dist'' keys'' found'' → Heard N (Calm N dist keys) dist keys found Every dist'' keys'' found''
heard_both a into rows = heard_then (heard_fewer into a.apart) rows

-- where nothing waits no node has fallen
pub unmoved : {N : Net} {dist keys dist' keys' : List ℕ} → Lined N.mark dist keys → Fell N dist keys dist' keys'
    → ((v : ℕ) → key_at keys' v ≡ empty) → (v : ℕ) → dist_at N dist' v ≡ dist_at N dist v
unmoved {N} {dist} {keys} {dist' = dist'} {keys' = keys'} l f rest v = at (f.each v)
  where
    at : Fallen N dist keys dist' keys' v → dist_at N dist' v ≡ dist_at N dist v
    at (same d k) = d
    at (lower n d k) = absurd (waits_now l.mark_fits n (omega (arith, l.most v)) k (rest v))

-- ---- what the loop found is what hanging asks for

module _ (p : Profile) {t : Table} (proper : Proper t) (level : Level (net_in p t)) {dist keys : List ℕ} (s : Settled (net_in p t) dist keys) where
  abbrev net : Net
  net = net_in p t

  abbrev far : ℕ → ℕ
  far v = get_or dist v p.mark

  -- settled distances can be hung
  pub hangable : Hangable p t dist
  hangable = record { proper = proper; legal = level_legal p proper level; sums = s.sums; dist_long = s.lined.long }

  -- a link that holds a node doesn't hold the root
  not_root : {v k : ℕ} → Holds net far v k → v ≢ t.root
  not_root {v} {k} h e = root_not_tight (level_legal p proper level) (rows_in p (arrays dist dist dist)) s.sums k (rw e at (holds_tight p t dist dist dist h))

  near : (v : ℕ) → far v ≢ p.mark → far v < p.mark
  near v n = omega (arith, n, s.lined.most v)

  module _ {old found : List ℕ} (f : Found net old dist found) where
    -- where every node that asks has moved
    all_best : {asks : ℕ → Type 0} → length found ≡ most_nodes
        → ((v : ℕ) → asks v → v ≢ t.root → far v < p.mark → Moved net old dist v) → AllBest net far asks found
    all_best {asks} long moved = record { long = long; each = λ v a. at v a (ℕ_discrete (found_at net found v) no_link) }
      where
        here : (v : ℕ) → asks v → {j : ℕ} → Holds net far v j → Smallest net (hung_by net dist found) v (found_at net found v)
        here v a h = f.smallest v (moved v a (not_root h) (near v h.reached))

        held : {v k : ℕ} → far v < p.mark → Tight net (hung_by net dist found) k v → Holds net far v k
        held l a = tight_holds p t dist found found (λ e. omega arith) a

        at : (v : ℕ) → asks v → Dec (found_at net found v ≡ no_link) → Best no_link (Holds net far v) (found_at net found v)
        at v a (yes e) = lacks e (λ j h. let k = (here v a h).tight.usable.is_link in omega (arith, proper.few_links))
        at v a (no n) =
            let h = held (f.reached v n) (f.tight v n) in
            finds h (λ j b. (here v a h).smallest j (holds_tight p t dist found found b))

  -- no node but the root is reached to begin with
  pub built_best : {old keys₀ found : List ℕ} → Alone net old keys₀ → Comes net old keys₀ (replicate 256 no_link) dist found
      → AllBest net far (λ v. Unit {0}) found
  built_best alone c = all_best (c.comes _ (finding_none (filled 256 no_link))) c.long (λ v a n l. omega (arith, alone.far v n))

  module _ {parent dist₁ keys₁ found₁ found : List ℕ} (begun : Begun net parent dist₁ keys₁ found₁)
      (c : Comes net dist₁ keys₁ found₁ dist found) where
    came : Found net begun.stood dist found
    came = c.comes begun.stood begun.finding

    -- each reached node is carried to begin with: one that hasn't moved is on a tight link
    unmoved_held : (v : ℕ) → v ≢ t.root → far v < p.mark → ¬ (Moved net begun.stood dist v) → Holds net far v (get_or parent v no_link)
    unmoved_held v n l not_less =
        let stays : dist_at net dist v ≡ dist_at net begun.stood v = omega (arith, came.fell v) in
        let carries = carries_still came.fell stays (begun.carried.carried v (omega arith) n) in
        let tight = carries_tight level (found_at net found) (found_at net found) s (record { comes = l; carries = carries }) in
        tight_holds p t dist found found (λ e. omega arith) tight

    kept_best : AllBest net far (λ v. ¬ (Holds net far v (get_or parent v no_link))) found
    kept_best = all_best came c.long (λ v loose n l. at v loose n l (dec_lt (dist_at net dist v) (dist_at net begun.stood v)))
      where
        at : (v : ℕ) → ¬ (Holds net far v (get_or parent v no_link)) → v ≢ t.root → far v < p.mark
            → Dec (dist_at net dist v < dist_at net begun.stood v) → Moved net begun.stood dist v
        at v loose n l (yes less) = less
        at v loose n l (no not_less) = absurd (loose (unmoved_held v n l not_less))

    pub kept_picked : {parent' : List ℕ} → AllKept net far found parent parent' → AllPicked net far parent parent'
    kept_picked k = all_picked k kept_best

    -- so is one for which no link was found
    pub standing_links : Rooted net parent → StandingLinks net far found parent
    standing_links rooted = record { each = λ v. record { held = λ lacks_one reached has. at v lacks_one reached has (ℕ_discrete v t.root) } }
      where
        moved_found : (v : ℕ) → found_at net found v ≡ no_link → ¬ (Moved net begun.stood dist v)
        moved_found v lacks_one moved = let k = (came.smallest v moved).tight.usable.is_link in omega (arith, proper.few_links)

        at : (v : ℕ) → found_at net found v ≡ no_link → far v ≢ p.mark → get_or parent v no_link ≢ no_link → Dec (v ≡ t.root) → Holds net far v (get_or parent v no_link)
        at v lacks_one reached has (yes e) = absurd (has (rw e rooted.no_parent))
        at v lacks_one reached has (no n) = unmoved_held v n (near v reached) (moved_found v lacks_one)

  -- ---- whole trees

  pub regrown : {old parent first : List ℕ} → Hanged p t dist old parent first → Regrown p t old (arrays dist parent first)
  regrown h = record { whole = record { dist = s.lined.long; parent = h.parent_long; first = h.first_long }; next = h.next }

  pub grown : {parent first : List ℕ} → Hanged p t dist (replicate 256 no_link) parent first → Grown p t (arrays dist parent first)
  grown h = record {
    whole = record { dist = s.lined.long; parent = h.parent_long; first = h.first_long };
    fresh = next_fresh (level_legal p proper level) (filled 256 no_link) h.next;
  }

  -- the old tree is the next one where its parents carry still and nothing has fallen
  module _ {rows : List ℕ} {tree : Arrays} (f : Fitted p t rows tree) (c : AllCarried net tree.parent tree.dist)
      (equal : (v : ℕ) → dist_at net dist v ≡ dist_at net tree.dist v) where
    abbrev before : Net
    before = net_in p (with_costs t f.costs)

    keeps_parents : AllPicked net far tree.parent tree.parent
    keeps_parents = record { long = f.old.whole.parent; each = λ v. at v (f.fits.row v) }
      where
        at : (v : ℕ) → Row before (rows_in p tree) v → Picked no_link (Holds net far v) (get_or tree.parent v no_link) (get_or tree.parent v no_link)
        at v (root r) = on_none r.no_parent (λ j h. not_root h r.is_root)
        at v (bare b) = on_none b.no_parent (λ j h. h.reached (equal v ∙ b.unreached))
        at v (hung h) =
            let reached : dist_at net tree.dist v < p.mark = omega (arith, h.reached, f.old.most v) in
            let carries = carries_still {dist' = dist} (λ u. omega (arith, equal u)) (equal v) (c.carried v reached h.not_root) in
            let tight = carries_tight level (λ u. get_or tree.parent u no_link) (λ u. get_or tree.first u no_link) s (record { comes = omega (arith, equal v); carries = carries }) in
            on_old (tight_holds p t dist tree.parent tree.first (λ e. omega (arith, equal v)) tight) refl

    keeps_firsts : Standing t.root t.starts tree.parent most_nodes tree.first
    keeps_firsts = record { each = λ v l. at v (f.fits.row v) }
      where
        lone : {link first : ℕ} → link ≡ no_link → first ≡ no_link → FirstBy t.root t.starts tree.first link first
        lone e q = record { bare = λ l. q ∙ sym e; near = λ l n. absurd (omega (arith, proper.few_links)); far = λ l n. absurd (omega (arith, proper.few_links)) }

        at : (v : ℕ) → Row before (rows_in p tree) v → FirstBy t.root t.starts tree.first (get_or tree.parent v no_link) (get_or tree.first v no_link)
        at v (root r) = lone r.no_parent r.no_first
        at v (bare b) = lone b.no_parent b.no_first
        at v (hung h) = record { bare = λ l. absurd (omega (arith, h.tight.usable.is_link)); near = λ l e. h.near e; far = λ l n. h.far n }

    pub regrown_still : Regrown p t tree.parent (arrays dist tree.parent tree.first)
    regrown_still =
        let rises = picked_rising p hangable keeps_parents tree.first in
        regrown (hanged p hangable keeps_parents tree.first (standing_firsts rises keeps_firsts (leaving proper) f.old.whole.first))

-- ---- whether the loop has to run

reseeded_still : {N : Net} {parent dist keys found tree_dist tree_first first dist' keys' found' : List ℕ} {lifted : Bool}
    → Level N → Lifted N parent dist keys → LiftedRows N tree_dist tree_first dist first lifted → lifted ≡ false
    → Heard N (Calm N dist keys) dist keys found Every dist' keys' found' → NoneWaits keys'
    → Reseeded N parent tree_dist tree_first dist' first keys' false
reseeded_still level l r e heard idle =
    let none = not_lifted r e in
    let settled = settled level heard.partly idle in
    let equal = unmoved l.begun.lined heard.fell settled.none_waits in
    still settled (rw none.0 at (carried_all l)) (rw none.0 at equal) none.1

pub reseeded : {N : Net} {parent dist keys found tree_dist tree_first first dist' keys' found' : List ℕ} {lifted : Bool} (idle : Bool)
    → Level N → Lifted N parent dist keys → LiftedRows N tree_dist tree_first dist first lifted → lifted ≡ false → length first ≡ most_nodes
    → Heard N (Calm N dist keys) dist keys found Every dist' keys' found' → (idle ≡ true → NoneWaits keys')
    → Reseeded N parent tree_dist tree_first dist' first keys' (not idle)
reseeded true level l r e long heard says = reseeded_still level l r e heard (says refl)
reseeded false level l r e long heard says = moves long

pub regrown_stopped : (p : Profile) {t : Table} {rows : List ℕ} {tree : Arrays} {dist first keys : List ℕ} {runs : Bool} → Proper t → Level (net_in p t)
    → Fitted p t rows tree → Reseeded (net_in p t) tree.parent tree.dist tree.first dist first keys runs → runs ≡ false
    → Regrown p t tree.parent (arrays dist tree.parent first)
regrown_stopped p proper level f (still s c e g) q = rw g (regrown_still p proper level s f c e)
regrown_stopped p proper level f (moves long) q = absurd (true_false q)

-- ---- where the mark is taken for the ceiling

module _ (p : Profile) {t : Table} (proper : Proper t) (ample : Ample (net_in p t)) where
  pub level : Level (net_in (leveled p) t)
  level = leveling.level (ample_legal p proper ample) ample

  pub old_down : {tree : Arrays} → Old p t tree → Old (leveled p) t tree
  old_down o = record { whole = o.whole; most = o.most; root_zero = o.root_zero; root_parent = o.root_parent }

  pub fitted_down : {tree : Arrays} {rows : List ℕ} → Fitted p t rows tree → Fitted (leveled p) t rows tree
  fitted_down f = record {
    old = old_down f.old;
    named = f.named;
    costs = f.costs;
    same = f.same;
    fits = leveling.fits_down ample.high f.old.most f.fits;
  }

  pub grown_up : {tree : Arrays} → Grown (leveled p) t tree → Grown p t tree
  grown_up g = record { whole = g.whole; fresh = leveling.fresh_up (ample_legal p proper ample) ample g.fresh }

  pub regrown_up : {tree : Arrays} {old : List ℕ} → Regrown (leveled p) t old tree → Regrown p t old tree
  regrown_up g = record { whole = g.whole; next = leveling.next_up (ample_legal p proper ample) ample g.next }
