-- Distances that are least sums, parents that are kept or found and first links by those parents make the next
-- tree. Assumes nothing.
use mathlib.Core.Path.{◌≡◌, refl, sym, ◌∙◌}
use mathlib.Core.Logic.{◌≢◌}
use mathlib.Core.List.{List}
use Prim.Native.Nat.{ℕ, ◌≤◌, ◌<◌}
use native.Mathlib.Omega.{arith}
use native.Mathlib.Decide.{ℕ_discrete}
use lib.ListN.{length, get_or, replicate}
use Rattle.rules.specs.Net.{Net, Legal}
use Rattle.rules.specs.Fit.{Rows, Reached, Tight, Hung, Row, root, hung, bare}
use Rattle.rules.specs.Keep.{Choice, Next}
use Rattle.rules.specs.Columns.{Table, Proper, net_in, rows_in, arrays, most_nodes, no_link}
use Rattle.rules.specs.declared.Profile.{Profile}
use Rattle.usable.proofs.Reading.{read_row, start_has_row}
use Rattle.basics.proofs.Arrays.{filled}
use Rattle.sums.specs.Sums.{Sums}
use Rattle.sums.proofs.Distances.{some_tight, root_not_tight, offered}
use Rattle.firsts.specs.FirstLinks.{Has, Rising, FirstLink, FirstLinks}
use Rattle.firsts.proofs.Laws.{first_hangs, first_near, first_far, first_one}
use Rattle.keep.specs.Kept.{Holds, Kept, keeps, takes, AllKept}
use Rattle.keep.proofs.Laws.{none_holds_not}

-- the table is accepted, and the distances are its least sums, by a profile's numbers
pub record Hangable (p : Profile) (t : Table) (dist : List ℕ) : Type 0 where
  pub proper : Proper t
  pub legal : Legal (net_in p t)
  pub sums : Sums (net_in p t) (λ v. get_or dist v p.mark)
  pub dist_long : length dist ≡ most_nodes

-- the arrays are whole, and they are the next tree where old has each node's link before
pub record Hanged (p : Profile) (t : Table) (dist old parent first : List ℕ) : Type 0 where
  pub parent_long : length parent ≡ most_nodes
  pub first_long : length first ≡ most_nodes
  pub next : Next (net_in p t) (rows_in p (arrays dist parent first)) (λ v. get_or old v no_link)

-- link k holds node v by the distances alone, exactly where v is reached in a tree that has them and k is tight for it
module _ (p : Profile) (t : Table) (dist parent first : List ℕ) {v k : ℕ} where
  pub holds_tight : Holds (net_in p t) (λ u. get_or dist u p.mark) v k → Tight (net_in p t) (rows_in p (arrays dist parent first)) k v
  holds_tight h =
      record { usable = h.tight.usable; ends_at = h.tight.ends_at; from_reached = h.tight.from_reached; sum = h.tight.sum }

  pub tight_holds : Reached (net_in p t) (rows_in p (arrays dist parent first)) v → Tight (net_in p t) (rows_in p (arrays dist parent first)) k v
      → Holds (net_in p t) (λ u. get_or dist u p.mark) v k
  tight_holds n a = record { reached = n; tight = record { usable = a.usable; ends_at = a.ends_at; from_reached = a.from_reached; sum = a.sum } }

-- ---- which link a node takes

-- the smallest link that holds a node; none where none does
pub data Best (none : ℕ) (Held : ℕ → Type 0) (found : ℕ) : Type 0 where
  finds : Held found → ((j : ℕ) → Held j → found ≤ j) → Best none Held found
  lacks : found ≡ none → ((j : ℕ) → ¬ (Held j)) → Best none Held found

-- it is found for every node that asks
pub record AllBest (N : Net) (dist : ℕ → ℕ) (asks : ℕ → Type 0) (found : List ℕ) : Type 0 where
  pub long : length found ≡ most_nodes
  pub each : (v : ℕ) → asks v → Best N.none (Holds N dist v) (get_or found v N.none)

-- a node stays on its old link, goes to the smallest that holds it, or is bare, since none does
pub data Picked (none : ℕ) (Held : ℕ → Type 0) (old new : ℕ) : Type 0 where
  on_old : Held old → new ≡ old → Picked none Held old new
  on_best : ¬ (Held old) → Held new → ((j : ℕ) → Held j → new ≤ j) → Picked none Held old new
  on_none : new ≡ none → ((j : ℕ) → ¬ (Held j)) → Picked none Held old new

picked_best : {none : ℕ} {Held : ℕ → Type 0} {old new : ℕ} → ¬ (Held old) → Best none Held new → Picked none Held old new
picked_best f (finds a s) = on_best f a s
picked_best f (lacks e none) = on_none e none

picked : {none : ℕ} {Held : ℕ → Type 0} {old found new : ℕ} → Kept Held old found new → (¬ (Held old) → Best none Held found) → Picked none Held old new
picked (keeps a e) s = on_old a e
picked (takes f e) s = rw e (picked_best f (s f))

pub record AllPicked (N : Net) (dist : ℕ → ℕ) (old parent : List ℕ) : Type 0 where
  pub long : length parent ≡ most_nodes
  pub each : (v : ℕ) → Picked N.none (Holds N dist v) (get_or old v N.none) (get_or parent v N.none)

-- after a change: who isn't held by the old link asks
pub all_picked : {N : Net} {dist : ℕ → ℕ} {old found parent : List ℕ} → AllKept N dist found old parent
    → AllBest N dist (λ v. ¬ (Holds N dist v (get_or old v N.none))) found → AllPicked N dist old parent
all_picked k s = record { long = k.long; each = λ v. picked (k.each v) (s.each v) }

-- in a build everyone asks
pub all_fresh : {N : Net} {dist : ℕ → ℕ} {parent : List ℕ} → Legal N → AllBest N dist (λ v. Unit {0}) parent
    → AllPicked N dist (replicate most_nodes N.none) parent
all_fresh {N} L s =
    record { long = s.long; each = λ v. rw (filled most_nodes N.none v) (picked_best (λ h. omega (arith, h.tight.usable.is_link, L.no_such_link)) (s.each v tt)) }

-- ---- whole trees

module _ (p : Profile) {t : Table} {dist : List ℕ} (a : Hangable p t dist) {old parent : List ℕ}
    (picks : AllPicked (net_in p t) (λ u. get_or dist u p.mark) old parent) (first : List ℕ) where
  abbrev N : Net
  N = net_in p t

  abbrev r : Rows
  r = rows_in p (arrays dist parent first)

  abbrev Held : ℕ → ℕ → Type 0
  Held = Holds (net_in p t) (λ u. get_or dist u p.mark)

  held : {v : ℕ} → Has parent v → Held v (get_or parent v no_link)
  held {v} h = at (picks.each v)
    where
      at : Picked no_link (Held v) (get_or old v no_link) (get_or parent v no_link) → Held v (get_or parent v no_link)
      at (on_old b e) = rw e b
      at (on_best f b s) = b
      at (on_none e none) = absurd (h.link e)

  tight_link : {v : ℕ} → Has parent v → Tight N r (get_or parent v no_link) v
  tight_link h = holds_tight p t dist parent first (held h)

  -- a node that a link holds has one
  has_held : {v k : ℕ} → Held v k → Has parent v
  has_held {v} {k} b = record { link = λ e. at e (picks.each v) }
    where
      at : get_or parent v no_link ≡ no_link → Picked no_link (Held v) (get_or old v no_link) (get_or parent v no_link) → ⊥
      at e (on_old c q) = none_holds_not p a.proper (rw (sym q ∙ e) at c)
      at e (on_best f c s) = none_holds_not p a.proper (rw e at c)
      at e (on_none q none) = none k b

  -- and one that none holds has none
  bare_none : {v : ℕ} → ((k : ℕ) → Held v k → ⊥) → get_or parent v no_link ≡ no_link
  bare_none {v} f = at (ℕ_discrete (get_or parent v no_link) no_link)
    where
      at : Dec (get_or parent v no_link ≡ no_link) → get_or parent v no_link ≡ no_link
      at (yes e) = e
      at (no n) = absurd (f (get_or parent v no_link) (held (record { link = n })))

  reached_has : {v : ℕ} → Reached N r v → v ≢ t.root → Has parent v
  reached_has h n = has_held (tight_holds p t dist parent first h (some_tight a.legal r a.sums h n).1)

  has_is_node : {v : ℕ} → Has parent v → v < t.nodes
  has_is_node h = let b = tight_link h in omega (arith, b.ends_at, a.proper.ends _ b.usable.is_link)

  has_row : {v : ℕ} → Has parent v → v < most_nodes
  has_row h = omega (arith, has_is_node h, a.proper.few_nodes)

  read_dist : {v : ℕ} → v < most_nodes → get_or dist v 0 ≡ get_or dist v p.mark
  read_dist {v} l = read_row dist a.dist_long v p.mark l

  pub picked_rising : Rising t.root t.starts dist parent
  picked_rising =
      record {
        long = picks.long;
        is_link = λ v h. (tight_link h).usable.is_link;
        goes_on = λ v h n. reached_has (tight_link h).from_reached n;
        nearer = λ v h. nearer h;
      }
    where
      nearer : {v : ℕ} → Has parent v → get_or dist (get_or t.starts (get_or parent v no_link) 0) 0 < get_or dist v 0
      nearer {v} h =
          let b = tight_link h in
          omega (arith, b.sum, b.usable.costs, read_dist (has_row h), read_dist (start_has_row a.proper b.usable.is_link))

  -- ---- rows

  module _ (f : FirstLinks t.root t.starts parent t.nodes first) where
    no_first : (v : ℕ) → get_or parent v no_link ≡ no_link → get_or first v no_link ≡ no_link
    no_first v e = at (ℕ_discrete (get_or first v no_link) no_link)
      where
        at : Dec (get_or first v no_link ≡ no_link) → get_or first v no_link ≡ no_link
        at (yes q) = q
        at (no n) = absurd ((first_hangs (f.known.right v (record { link = n }))).link e)

    first_of : {v : ℕ} → Has parent v → FirstLink t.root t.starts parent v (get_or first v no_link)
    first_of {v} h = f.known.right v (f.each v (has_is_node h) h)

    hung_row_lem : {v : ℕ} → v ≢ t.root → Reached N r v → Hung N r v
    hung_row_lem {v} n h =
        let has = reached_has h n in
        record {
          is_node = has_is_node has;
          not_root = n;
          reached = h;
          is_route = a.sums.is_route v h;
          tight = tight_link has;
          no_less = λ k o. (offered a.legal r a.sums k o).1;
          near = first_near (first_of has);
          far = λ q. first_one (first_far (first_of has) q) refl (first_of (picked_rising.goes_on v has q));
        }

    row : (v : ℕ) → Row N r v
    row v = at (ℕ_discrete v t.root) (ℕ_discrete (r.dist v) p.mark)
      where
        at : Dec (v ≡ t.root) → Dec (r.dist v ≡ p.mark) → Row N r v
        at (yes e) d =
            let lone : (k : ℕ) → Held v k → ⊥ = λ k h. root_not_tight a.legal r a.sums k (rw e at (holds_tight p t dist parent first h)) in
            let none = bare_none {v = v} lone in
            root (record { is_root = e; at_zero = rw e a.sums.root_zero; no_parent = none; no_first = no_first v none })
        at (no n) (yes m) =
            let none = bare_none {v = v} (λ k h. h.reached m) in
            bare (record { not_root = n; unreached = m; no_parent = none; no_first = no_first v none; no_offer = λ k o. (offered a.legal r a.sums k o).0 m })
        at (no n) (no h) = hung (hung_row_lem n h)

    choice : (v : ℕ) → Hung N r v → Choice N r (λ u. get_or old u no_link) v
    choice v h = at (picks.each v)
      where
        holds : {k : ℕ} → Tight N r k v → Held v k
        holds b = tight_holds p t dist parent first h.reached b

        at : Picked no_link (Held v) (get_or old v no_link) (get_or parent v no_link) → Choice N r (λ u. get_or old u no_link) v
        at (on_old b e) = Choice.keeps (holds_tight p t dist parent first b) e
        at (on_best g b s) = Choice.takes (λ c. g (holds c)) (record { tight = holds_tight p t dist parent first b; smallest = λ j c. s j (holds c) })
        at (on_none e none) = absurd (none (get_or parent v no_link) (holds h.tight))

    pub hanged : Hanged p t dist old parent first
    hanged = record { parent_long = picks.long; first_long = f.known.long; next = record { fits = record { row = row }; choice = choice } }
