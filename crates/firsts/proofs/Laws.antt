-- First links: asking whether they are right already, going up from a node to where its first link is known, and writing
-- it on the way. Assumes nothing.
use mathlib.Core.Path.{◌≡◌, refl, sym, ap, ◌∙◌}
use mathlib.Core.Logic.{◌≢◌}
use mathlib.Core.List.{List}
use Prim.Native.Nat.{ℕ, ◌+◌, ◌<◌}
use native.Mathlib.Omega.{arith}
use native.Mathlib.Decide.{ℕ_discrete, dec_lt}
use borrow.Author.Count.{below_more}
use lib.ListN.{length, get_or, set, replicate, length-set, length-replicate, get_or-eq_default}
use Rattle.rules.specs.Columns.{most_nodes, no_link}
use Rattle.rules.proofs.Logic.{by_size, get_d_any}
use Rattle.basics.specs.Leaving.{Leaving}
use Rattle.basics.proofs.Arrays.{filled, set_each}
use Rattle.firsts.specs.FirstLinks.{Has, above, Rising, FirstBy, Standing, FirstLink, near, far, Known, Spread, FirstLinks}

-- ---- reading an array of links

pub read_link : (array : List ℕ) {v : ℕ} → length array ≡ most_nodes → v < most_nodes → get_or array v 0 ≡ get_or array v no_link
read_link array {v} long l = get_d_any array v 0 no_link (omega arith)

pub has_read : {array : List ℕ} {v : ℕ} → length array ≡ most_nodes → v < most_nodes → get_or array v 0 ≢ no_link → Has array v
has_read {array} long l n = record { link = rw (read_link array long l) at n }

pub has_not_read : {array : List ℕ} {v : ℕ} → length array ≡ most_nodes → v < most_nodes → get_or array v 0 ≡ no_link → ¬ (Has array v)
has_not_read {array} long l e h = h.link (sym (read_link array long l) ∙ e)

-- ---- the first link of a node

module _ {root : ℕ} {starts parent : List ℕ} where
  pub first_hangs : {v f : ℕ} → FirstLink root starts parent v f → Has parent v
  first_hangs (near h e) = h
  first_hangs (far h n a) = h

  pub first_is_link : {v f : ℕ} → FirstLink root starts parent v f → f ≢ no_link
  first_is_link (near h e) = h.link
  first_is_link (far h n a) = first_is_link a

  pub first_near : {v f : ℕ} → FirstLink root starts parent v f → above starts parent v ≡ root → f ≡ get_or parent v no_link
  first_near (near h e) q = refl
  first_near (far h n a) q = absurd (n q)

  pub first_far : {v f : ℕ} → FirstLink root starts parent v f → above starts parent v ≢ root → FirstLink root starts parent (above starts parent v) f
  first_far (near h e) q = absurd (q e)
  first_far (far h n a) q = a

  pub first_one : {u v f g : ℕ} → FirstLink root starts parent u f → u ≡ v → FirstLink root starts parent v g → f ≡ g
  first_one {u} {v} (near h e) q b = ap (λ (w : ℕ). get_or parent w no_link) q ∙ sym (first_near b (sym (ap (above starts parent) q) ∙ e))
  first_one {u} {v} (far h n a) q b =
      let same = ap (above starts parent) q in
      first_one a same (first_far b (λ e. n (same ∙ e)))

-- ---- going up

module _ {root : ℕ} {starts dist parent : List ℕ} (s : Rising root starts dist parent) where
  -- a node that has a link is a place of the arrays
  pub hangs_within : {v : ℕ} → Has parent v → v < most_nodes
  hangs_within {v} h = at (dec_lt v most_nodes)
    where
      at : Dec (v < most_nodes) → v < most_nodes
      at (yes l) = l
      at (no l) = absurd (h.link (get_or-eq_default parent no_link {n = v} (omega (arith, s.long))))

  read_parent : {v : ℕ} → Has parent v → get_or parent v 0 ≡ get_or parent v no_link
  read_parent h = read_link parent s.long (hangs_within h)

  pub link_within : {v : ℕ} → Has parent v → get_or parent v 0 < length starts
  link_within {v} h = rw (read_parent h) (s.is_link v h)

  module _ {v up : ℕ} (h : Has parent v) (e : up ≡ get_or starts (get_or parent v 0) 0) where
    is_above : up ≡ above starts parent v
    is_above = e ∙ ap (λ (k : ℕ). get_or starts k 0) (read_parent h)

    pub up_nearer : get_or dist up 0 < get_or dist v 0
    up_nearer = rw is_above (s.nearer v h)

    pub up_hangs : up ≢ root → Has parent up
    up_hangs n = rw is_above (s.goes_on v h (λ q. n (is_above ∙ q)))

-- ---- first links that are right already

module _ {root : ℕ} {starts first : List ℕ} where
  by_one : {link f g : ℕ} → FirstBy root starts first link f → FirstBy root starts first link g → f ≡ g
  by_one {link} {f} {g} a b = at (dec_lt link (length starts)) (ℕ_discrete (get_or starts link 0) root)
    where
      at : Dec (link < length starts) → Dec (get_or starts link 0 ≡ root) → f ≡ g
      at (no n) d = omega (arith, a.bare (omega arith), b.bare (omega arith))
      at (yes l) (yes e) = a.near l e ∙ sym (b.near l e)
      at (yes l) (no m) = a.far l m ∙ sym (b.far l m)

  by_read : (parent : List ℕ) {v f : ℕ} → length parent ≡ most_nodes → v < most_nodes → FirstBy root starts first (get_or parent v 0) f
      → FirstBy root starts first (get_or parent v no_link) f
  by_read parent long l by = rw (← read_link parent long l) by

module _ {root : ℕ} {starts parent first : List ℕ} where
  module _ {v f : ℕ} (parent_long : length parent ≡ most_nodes) (first_long : length first ≡ most_nodes) (l : v < most_nodes)
      (by : FirstBy root starts first (get_or parent v 0) f) where
    pub standing_more : Standing root starts parent v first → get_or first v 0 ≡ f → Standing root starts parent (v + 1) first
    standing_more s e =
        let here : FirstBy root starts first (get_or parent v no_link) (get_or first v no_link) = rw (← read_link first first_long l, e) (by_read parent parent_long l by) in
        record { each = below_more (λ u. FirstBy root starts first (get_or parent u no_link) (get_or first u no_link)) v s.each here }

    pub standing_not : get_or first v 0 ≢ f → ¬ (Standing root starts parent most_nodes first)
    standing_not n s = n (read_link first first_long l ∙ by_one (s.each v l) (by_read parent parent_long l by))

module _ {root : ℕ} {starts dist parent : List ℕ} (r : Rising root starts dist parent) where
  module _ {first : List ℕ} (s : Standing root starts parent most_nodes first) where
    -- a first link is right, since that of the nearer node above is
    standing_right : (v : ℕ) → Has parent v → FirstLink root starts parent v (get_or first v no_link)
    standing_right = by_size (λ v. get_or dist v 0) (λ v. Has parent v → FirstLink root starts parent v (get_or first v no_link)) step
      where
        step : (v : ℕ) → ((u : ℕ) → get_or dist u 0 < get_or dist v 0 → Has parent u → FirstLink root starts parent u (get_or first u no_link))
            → Has parent v → FirstLink root starts parent v (get_or first v no_link)
        step v before h = at (ℕ_discrete (above starts parent v) root)
          where
            at : Dec (above starts parent v ≡ root) → FirstLink root starts parent v (get_or first v no_link)
            at (yes e) = rw ((s.each v (hangs_within r h)).near (r.is_link v h) e) (near h e)
            at (no n) =
                rw ((s.each v (hangs_within r h)).far (r.is_link v h) n) (far h n (before (above starts parent v) (r.nearer v h) (r.goes_on v h n)))

    -- a node that has a first link has a parent link
    standing_hangs : Leaving starts → length first ≡ most_nodes → {v : ℕ} → Has first v → Has parent v
    standing_hangs leaving long {v} h = record { link = λ e. h.link (at e (dec_lt v most_nodes)) }
      where
        at : get_or parent v no_link ≡ no_link → Dec (v < most_nodes) → get_or first v no_link ≡ no_link
        at e (yes l) = (s.each v l).bare (omega (arith, leaving.few)) ∙ e
        at e (no l) = get_or-eq_default first no_link {n = v} (omega (arith, long))

    pub standing_firsts : {n : ℕ} → Leaving starts → length first ≡ most_nodes → FirstLinks root starts parent n first
    standing_firsts leaving long =
        record {
          known = record { long = long; right = λ v h. standing_right v (standing_hangs leaving long h) };
          each = λ v l h. record { link = first_is_link (standing_right v h) };
        }

-- ---- climbing

module _ (root : ℕ) (starts parent : List ℕ) where
  -- v hangs above node or is it: its first link is that of node
  pub record Climbing (node v : ℕ) : Type 0 where
    pub hangs : Has parent v
    pub row : v < most_nodes
    pub link : get_or parent v 0 < length starts
    pub down : (f : ℕ) → FirstLink root starts parent v f → FirstLink root starts parent node f

module _ {root : ℕ} {starts dist parent : List ℕ} (s : Rising root starts dist parent) {node v : ℕ} (c : Climbing root starts parent node v)
    {up : ℕ} (e : up ≡ get_or starts (get_or parent v 0) 0) where
  pub climbing_near : up ≡ root → FirstLink root starts parent node (get_or parent v 0)
  climbing_near q = rw (read_parent s c.hangs) (c.down _ (near c.hangs (sym (is_above s c.hangs e) ∙ q)))

  pub climbing_more : up ≢ root → Climbing root starts parent node up
  climbing_more n =
      let hangs = up_hangs s c.hangs e n in
      record {
        hangs = hangs;
        row = hangs_within s hangs;
        link = link_within s hangs;
        down = λ f a. c.down f (far c.hangs (λ q. n (is_above s c.hangs e ∙ q)) (rw (← is_above s c.hangs e) a));
      }

-- ---- known first links

module _ {root : ℕ} {starts parent : List ℕ} where
  pub known_none : Known root starts parent (replicate most_nodes no_link)
  known_none = record { long = length-replicate most_nodes no_link; right = λ v h. absurd (h.link (filled most_nodes no_link v)) }

  pub climbing_known : {first : List ℕ} → Known root starts parent first → {node v : ℕ} → Climbing root starts parent node v → v < most_nodes
      → get_or first v 0 ≢ no_link → FirstLink root starts parent node (get_or first v 0)
  climbing_known {first} k {node} {v} c l n = rw (read_link first k.long l) (c.down _ (k.right v (has_read k.long l n)))

-- ---- writing first links

module _ (root : ℕ) (starts parent : List ℕ) where
  -- link is the first link of v, which is node or stands above it, and is written below v
  pub record Spreading (node link v : ℕ) (old new : List ℕ) : Type 0 where
    pub known : Known root starts parent new
    pub stays : (u : ℕ) → Has old u → Has new u
    pub here : FirstLink root starts parent v link
    pub row : v < most_nodes
    pub parent_link : get_or parent v 0 < length starts
    pub below : v ≢ node → Has new node

module _ {root : ℕ} {starts dist parent : List ℕ} (r : Rising root starts dist parent) {node link : ℕ} where
  pub spreading_none : {first : List ℕ} → Known root starts parent first → FirstLink root starts parent node link
      → Spreading root starts parent node link node first first
  spreading_none k a =
      let hangs = first_hangs a in
      record { known = k; stays = λ u h. h; here = a; row = hangs_within r hangs; parent_link = link_within r hangs; below = λ n. absurd (n refl) }

module _ {root : ℕ} {starts parent : List ℕ} {node link : ℕ} where
  pub spreading_written : {v : ℕ} {old new : List ℕ} → Spreading root starts parent node link v old new
      → Spread root starts parent node old (set new v link)
  spreading_written {v} {old} {new} s =
      record {
        known = record {
          long = length-set new v link ∙ s.known.long;
          right = λ u h. set_each (λ u x. x ≢ no_link → FirstLink root starts parent u x) new no_link v link inside (λ h. s.here) (λ u n h. s.known.right u (record { link = h })) u h.link;
        };
        stays = λ u h. record { link = set_each (λ u x. Has old u → x ≢ no_link) new no_link v link inside (λ h. is_link) (λ u n h. (s.stays u h).link) u h };
        here = record { link = set_each (λ u x. u ≡ node → x ≢ no_link) new no_link v link inside (λ e. is_link) (λ u n e. rw e (s.below (λ q. n (e ∙ sym q))).link) node refl };
      }
    where
      inside : v < length new
      inside = omega (arith, s.row, s.known.long)

      is_link : link ≢ no_link
      is_link = first_is_link s.here

module _ {root : ℕ} {starts dist parent : List ℕ} (r : Rising root starts dist parent) {node link v up : ℕ}
    (e : up ≡ get_or starts (get_or parent v 0) 0) where
  pub spreading_more : {old new : List ℕ} → Spreading root starts parent node link v old new → up ≢ root
      → Spreading root starts parent node link up old (set new v link)
  spreading_more s n =
      let w = spreading_written s in
      let above_v = is_above r (first_hangs s.here) e in
      let hangs = up_hangs r (first_hangs s.here) e n in
      record {
        known = w.known;
        stays = w.stays;
        here = rw above_v (first_far s.here (λ q. n (above_v ∙ q)));
        row = hangs_within r hangs;
        parent_link = link_within r hangs;
        below = λ m. w.here;
      }

module _ {root : ℕ} {starts parent : List ℕ} where
  pub firsts_more : {v : ℕ} {first : List ℕ} → FirstLinks root starts parent v first → (Has parent v → Has first v)
      → FirstLinks root starts parent (v + 1) first
  firsts_more {v} {first} a here =
      record { known = a.known; each = below_more (λ u. Has parent u → Has first u) v a.each here }

  pub firsts_spread : {v : ℕ} {first next : List ℕ} → FirstLinks root starts parent v first → Spread root starts parent v first next
      → FirstLinks root starts parent (v + 1) next
  firsts_spread {v} {first} {next} a w =
      firsts_more (record { known = w.known; each = λ u l h. w.stays u (a.each u l h) }) (λ h. w.here)
