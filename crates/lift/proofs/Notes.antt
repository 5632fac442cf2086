-- What a noted node changes, node by node and link by link. Assumes nothing.
use mathlib.Core.Path.{◌≡◌, refl, sym, ◌∙◌}
use mathlib.Core.Logic.{◌⊎◌, inl, inr, ⊎_elim, ◌≢◌}
use mathlib.Core.Bool.{Bool, false}
use mathlib.Core.List.{List}
use Prim.Native.Nat.{ℕ, ◌+◌, ◌≤◌, ◌<◌}
use native.Mathlib.Omega.{arith}
use native.Mathlib.Decide.{dec_lt, ℕ_discrete}
use lib.ListN.{length, get_or, get_or-eq_default}
use Rattle.rules.specs.Net.{Net}
use Rattle.rules.specs.Columns.{most_nodes, no_link}
use Rattle.rules.proofs.Logic.{get_d_any}
use Rattle.usable.specs.declared.Table as standing
use Rattle.usable.specs.Standing.{net_at}
use Rattle.usable.proofs.Reading.{start_has_row}
use Rattle.basics.specs.Tells.{Tells}
use Rattle.heads.specs.Heads.{Head}
use Rattle.offer.specs.Offer.{dist_at, key_at, Lined}
use Rattle.afoot.specs.Afoot.{Orderly, Back, Untouched}
use Rattle.afoot.proofs.Offers.{orderly, end_is_node}
use Rattle.afoot.proofs.Rounds.{starts_rise}
use Rattle.afoot.proofs.Heard.{untouched_more, untouched_all}
use Rattle.carries.specs.Waiting.{Waiting}
use Rattle.lift.specs.Loose as loose
use Rattle.lift.specs.Loose.{parent_at, Stands, Rooted, Parents, Loose, Noted, Leaves, Hangs, AllStand, StandBut, StandApart, Liftable}

-- ---- a node is asked

module _ {N : Net} {parent dist keys : List ℕ} (lined : Lined N.mark dist keys) where
  pub noted_none : {asked : ℕ → Type 0} → ((u : ℕ) → asked u → ⊥) → Noted N parent dist keys asked keys
  noted_none none = record { lined = lined; root_still = refl; still = λ u s. s; stands = λ u a. absurd (none u a) }

  module _ {v : ℕ} where
    -- it waits if it is reached
    pub noted_waits : v ≢ N.root → {keys' : List ℕ} → Waiting N.mark dist keys v keys' → Noted N parent dist keys (λ u. u ≡ v) keys'
    noted_waits not_root {keys'} r =
        record {
          lined = r.lined;
          root_still = r.others N.root (λ e. not_root (sym e));
          still = λ u s. at u s (ℕ_discrete u v);
          stands = λ u e. rw e (here (dec_lt (dist_at N dist v) N.mark));
        }
      where
        here : Dec (dist_at N dist v < N.mark) → Stands N parent dist keys' v
        here (yes l) = loose.waits (r.here l)
        here (no l) = loose.bare (omega (arith, lined.most v))

        other : (u : ℕ) → key_at keys' u ≡ key_at keys u → Stands N parent dist keys u → Stands N parent dist keys' u
        other u e (loose.bare d) = loose.bare d
        other u e (loose.root d) = loose.root d
        other u e (loose.waits k) = loose.waits (rw e k)
        other u e (loose.carried c) = loose.carried c

        at : (u : ℕ) → Stands N parent dist keys u → Dec (u ≡ v) → Stands N parent dist keys' u
        at u s (yes e) = rw e (here (dec_lt (dist_at N dist v) N.mark))
        at u s (no n) = other u (r.others u n) s

pub noted_only : {N : Net} {parent dist keys : List ℕ} {asked asked' : ℕ → Type 0} {keys' : List ℕ} → ((u : ℕ) → asked' u → asked u)
    → Noted N parent dist keys asked keys' → Noted N parent dist keys asked' keys'
noted_only f n = record { lined = n.lined; root_still = n.root_still; still = n.still; stands = λ u a. n.stands u (f u a) }

-- ---- more nodes are sure

module _ {N : Net} {parent : List ℕ} {sure sure' : ℕ → Type 0} {dist keys : List ℕ} (h : Loose N parent sure dist keys) where
  pub loose_more : {asked : ℕ → Type 0} {keys' : List ℕ} → Noted N parent dist keys asked keys' → ((u : ℕ) → sure' u → asked u ⊎ sure u)
      → Loose N parent sure' dist keys'
  loose_more {asked} {keys'} n f =
      record { lined = n.lined; root_zero = h.root_zero; root_idle = n.root_still ∙ h.root_idle; standing = λ u s. at u (f u s) }
    where
      at : (u : ℕ) → asked u ⊎ sure u → Stands N parent dist keys' u
      at u (inl a) = n.stands u a
      at u (inr s) = n.still u (h.standing u s)

  -- one more
  pub loose_one : {v : ℕ} {keys' : List ℕ} → ((u : ℕ) → sure' u → u ≢ v → sure u) → Noted N parent dist keys (λ u. u ≡ v) keys'
      → Loose N parent sure' dist keys'
  loose_one {v} others n = loose_more n (λ u s. at u s (ℕ_discrete u v))
    where
      at : (u : ℕ) → sure' u → Dec (u ≡ v) → (u ≡ v) ⊎ sure u
      at u s (yes e) = inl e
      at u s (no d) = inr (others u s d)

-- what is sure may be said otherwise
pub loose_fewer : {N : Net} {parent : List ℕ} {sure sure' : ℕ → Type 0} {dist keys : List ℕ}
    → ((v : ℕ) → sure' v → dist_at N dist v < N.mark → sure v) → Loose N parent sure dist keys → Loose N parent sure' dist keys
loose_fewer {N} {parent} {sure} {sure'} {dist} {keys} f h =
    record { lined = h.lined; root_zero = h.root_zero; root_idle = h.root_idle; standing = λ v s. at v s (dec_lt (dist_at N dist v) N.mark) }
  where
    at : (v : ℕ) → sure' v → Dec (dist_at N dist v < N.mark) → Stands N parent dist keys v
    at v s (yes l) = h.standing v (f v s l)
    at v s (no l) = loose.bare (omega (arith, h.lined.most v))

-- ---- a node that hangs by a link

-- the network of a table that was judged
pub orderly_at : (t : standing.Table) → Orderly (net_at t)
orderly_at t = orderly t.profile t.proper

module _ {N : Net} (o : Orderly N) {parent : List ℕ} (rooted : Rooted N parent) {v : ℕ} (is_node : v < most_nodes) where
  its_parent : get_or parent v 0 ≡ parent_at N parent v
  its_parent = get_d_any parent v 0 N.none (omega (arith, rooted.long))

  -- it isn't the root
  pub not_root : get_or parent v 0 < N.links → v ≢ N.root
  not_root is_link e =
      let none : parent_at N parent v ≡ N.none = rw e rooted.no_parent in
      omega (arith, its_parent, o.no_such_link)

-- ---- the nodes that a row touches

module _ {N : Net} (o : Orderly N) {parent : List ℕ} (parents : Parents N parent) {k : ℕ} (is_link : k < N.links) where
  -- a node whose parent link the row names is that link's end
  at_the_end : (u : ℕ) → k ≡ parent_at N parent u → u ≡ N.end k
  at_the_end u e = sym (rw (sym e) at (parents.ends_at u (λ q. omega (arith, o.no_such_link))))

  pub end_asked : {dist keys keys' : List ℕ} → Noted N parent dist keys (λ u. u ≡ N.end k) keys'
      → Noted N parent dist keys (λ u. k ≡ parent_at N parent u) keys'
  end_asked n = noted_only at_the_end n

  pub end_free : {dist keys : List ℕ} → Lined N.mark dist keys → get_or parent (N.end k) 0 ≢ k → Noted N parent dist keys (λ u. k ≡ parent_at N parent u) keys
  end_free lined other =
      noted_none lined (λ u e. other (its_parent o parents.rooted (end_is_node o k is_link) ∙ sym (rw (at_the_end u e) at e)))

module _ (t : standing.Table) {parent : List ℕ} (parents : Parents (net_at t) parent) {k : ℕ} (is_link : k < length t.starts.now) where
  abbrev Over : ℕ → Type 0
  Over u = Back (net_at t) k (get_or parent u no_link)

  -- what leads back is a link: past the last no number has two ends
  back_is_link : (j : ℕ) → Back (net_at t) k j → j < length t.starts.now
  back_is_link j b = at (dec_lt j (length t.starts.now))
    where
      at : Dec (j < length t.starts.now) → j < length t.starts.now
      at (yes l) = l
      at (no l) =
          let start = get_or-eq_default t.starts.now 0 {n = j} (omega arith) in
          let end = get_or-eq_default t.ends.now 0 {n = j} (omega (arith, t.proper.ends_long)) in
          absurd (t.proper.apart k is_link (omega (arith, b.from, b.to)))

  -- a node whose parent link leads back over the row's is the row's start
  at_the_start : (u : ℕ) → Over u → u ≡ get_or t.starts.now k 0
  at_the_start u b = sym (parents.ends_at u (λ e. omega (arith, back_is_link _ b, t.proper.few_links))) ∙ b.to

  pub start_free : {dist keys : List ℕ} → Lined t.profile.mark dist keys → {b : Bool}
      → Tells (Leaves t.starts.now (get_or parent (get_or t.starts.now k 0) 0) (get_or t.ends.now k 0)) b → b ≡ false
      → Noted (net_at t) parent dist keys Over keys
  start_free lined says e = noted_none lined (λ u b. says.fails e (rw (its u b) (record { is_link = back_is_link _ b; from = b.from })))
    where
      its : (u : ℕ) → Over u → get_or parent (get_or t.starts.now k 0) 0 ≡ get_or parent u no_link
      its u b = rw (← at_the_start u b) (its_parent (orderly_at t) parents.rooted (rw (at_the_start u b) (start_has_row t.proper is_link)))

-- ---- each row after the other

back? : (N : Net) (j k : ℕ) → Dec (Back N j k)
back? N j k = at (ℕ_discrete (N.start k) (N.end j)) (ℕ_discrete (N.end k) (N.start j))
  where
    at : Dec (N.start k ≡ N.end j) → Dec (N.end k ≡ N.start j) → Dec (Back N j k)
    at (yes a) (yes b) = yes (record { from = a; to = b })
    at (yes a) (no n) = no (λ b. n b.to)
    at (no n) d = no (λ b. n b.from)

module _ {N : Net} {parent : List ℕ} (rows : List ℕ) {i : ℕ} {dist keys : List ℕ} (h : StandApart N parent rows i dist keys) where
  abbrev link : ℕ
  link = get_or rows i 0

  -- no later row touches u's parent link, and it doesn't lead back over this one's
  abbrev Behind : ℕ → Type 0
  Behind u = Untouched N rows (i + 1) (parent_at N parent u) × ¬ (Back N link (parent_at N parent u))

  -- the row's end is asked, and then its start
  pub rows_more : {keys₁ keys' : List ℕ} → Noted N parent dist keys (λ u. link ≡ parent_at N parent u) keys₁
      → Noted N parent dist keys₁ (λ u. Back N link (parent_at N parent u)) keys' → StandApart N parent rows (i + 1) dist keys'
  rows_more end start = loose_more (loose_more {sure' = Behind} h end (λ u s. at_end_or u s (ℕ_discrete link (parent_at N parent u)))) start (λ u s. over u s (back? N link (parent_at N parent u)))
    where
      at_end_or : (u : ℕ) → Behind u → Dec (link ≡ parent_at N parent u) → (link ≡ parent_at N parent u) ⊎ Untouched N rows i (parent_at N parent u)
      at_end_or u s (yes e) = inl e
      at_end_or u s (no n) = inr (untouched_more N rows i (parent_at N parent u) s.0 (⊎_elim n s.1))

      over : (u : ℕ) → Untouched N rows (i + 1) (parent_at N parent u) → Dec (Back N link (parent_at N parent u)) → Back N link (parent_at N parent u) ⊎ Behind u
      over u s (yes b) = inl b
      over u s (no n) = inr (s, n)

pub rows_all : {N : Net} {parent : List ℕ} (rows : List ℕ) {i : ℕ} {dist keys : List ℕ} → length rows ≤ i → StandApart N parent rows i dist keys
    → AllStand N parent dist keys
rows_all rows {i} past h = loose_fewer (λ w s near. untouched_all _ rows i past _) h

-- ---- the nodes that hang on u, link by link

-- if v hangs on u, then by a link before k
abbrev pub HungBefore : Net → List ℕ → ℕ → ℕ → ℕ → Type 0
HungBefore N parent u k v = Hangs N parent u v → parent_at N parent v < k

-- the links of u before k are done
pub record Noting (N : Net) (parent : List ℕ) (u first : ℕ) (dist keys : List ℕ) (k : ℕ) : Type 0 where
  pub from_first : first ≤ k
  pub stands : Loose N parent (HungBefore N parent u k) dist keys

module _ {N : Net} (o : Orderly N) {parent : List ℕ} (rooted : Rooted N parent) {u first : ℕ} (is_first : Head N.links N.start u first) where
  pub noting_none : {dist keys : List ℕ} → StandBut N parent u dist keys → Noting N parent u first dist keys first
  noting_none h =
      record {
        from_first = omega arith;
        stands = loose_fewer (λ v s l hangs. is_first.before (parent_at N parent v) (s hangs) hangs.leaves) h;
      }

  module _ {dist keys : List ℕ} {k : ℕ} (n : Noting N parent u first dist keys k) where
    pub noting_all : N.links ≤ k → AllStand N parent dist keys
    noting_all l = loose_fewer (λ v s near hangs. omega (arith, hangs.is_link)) n.stands

    module _ (is_link : k < N.links) where
      -- a link of another node is behind all of u's
      pub noting_past : N.start k ≢ u → AllStand N parent dist keys
      noting_past other = loose_fewer (λ v s near hangs. before v hangs (dec_lt (parent_at N parent v) k)) n.stands
        where
          before : (v : ℕ) → Hangs N parent u v → Dec (parent_at N parent v < k) → parent_at N parent v < k
          before v hangs (yes l) = l
          before v hangs (no l) =
              let up = starts_rise o first k n.from_first is_link in
              let on = starts_rise o k (parent_at N parent v) (omega arith) hangs.is_link in
              absurd (other (omega (arith, is_first.leaves (omega (arith, n.from_first)), hangs.leaves)))

      -- a node that hangs on u by link k is link k's end
      others : (v : ℕ) → (parent_at N parent v ≡ k → N.end k ≡ v → ⊥) → HungBefore N parent u (k + 1) v → HungBefore N parent u k v
      others v apart s hangs = at (ℕ_discrete (parent_at N parent v) k)
        where
          at : Dec (parent_at N parent v ≡ k) → parent_at N parent v < k
          at (yes e) = absurd (apart e (rw e at hangs.ends_at))
          at (no d) = omega (arith, s hangs)

      pub noting_free : get_or parent (N.end k) 0 ≢ k → Noting N parent u first dist keys (k + 1)
      noting_free other =
          record {
            from_first = omega (arith, n.from_first);
            stands = loose_fewer (λ v s near. others v (λ p e. other (its_parent o rooted (end_is_node o k is_link) ∙ rw (sym e) at p)) s) n.stands;
          }

      pub noting_hung : get_or parent (N.end k) 0 ≡ k → {keys' : List ℕ} → Waiting N.mark dist keys (N.end k) keys'
          → Noting N parent u first dist keys' (k + 1)
      noting_hung is_parent r =
          record {
            from_first = omega (arith, n.from_first);
            stands = loose_one n.stands (λ w s apart. others w (λ p e. apart (sym e)) s) (noted_waits n.stands.lined (not_root o rooted (end_is_node o k is_link) (omega arith)) r);
          }
