-- A climb, step by step: counting its links, and writing them. Assumes nothing.
use mathlib.Core.Path.{◌≡◌, refl, ◌∙◌}
use mathlib.Core.Logic.{◌≢◌}
use mathlib.Core.Bool.{true}
use mathlib.Core.List.{List, [], ◌∷◌, ◌++◌, append_assoc}
use Prim.Native.Nat.{ℕ, suc, ◌+◌, ◌-◌, ◌≤◌, ◌<◌}
use native.Mathlib.Omega.{arith}
use lib.Dec.{T, ltb, ltb→lt, lt→ltb}
use lib.ListN.{length, get_or, take, drop, set, length-append}
use lib.Seq.{drop-cons, take_at, drop-set-lt, get_or-set_same, lt-length-set}
use Rattle.std.specs.Prelude.{None, Some}
use Rattle.rules.specs.Columns.{most_nodes}
use Rattle.rules.specs.Keep.{count}
use Rattle.rules.proofs.Logic.{count_lt, count_all}
use Rattle.rules.specs.Jobs.{written}
use Rattle.path.specs.Climb.{Parents, link_to, above, Step, Climbable, Way, at_root, by_parent, Counted, FilledFrom, Traces, traced, short}

-- ---- the list

-- the last of n links written at its place, and the others before it
written_last : (links : List ℕ) (k n : ℕ) (list : List ℕ) → suc (length links) ≡ n → n ≤ length list
    → written links (set list (length links) k) ≡ written (links ++ (k ∷ [])) list
written_last links k n list e l =
    let here : length links < length list = omega arith in
    let long : length (links ++ (k ∷ [])) ≡ suc (length links) = length-append links (k ∷ []) ∙ omega arith in
    rw (
      long,
      append_assoc,
      drop-cons (set list (length links) k) (length links) 0 (lt-length-set list (length links) k here),
      get_or-set_same list (length links) k 0 here,
      drop-set-lt (suc (length links)) list (length links) k (omega arith),
    )

-- v's last link is a step, and so many links stand before it
pub record Last (p : Parents) (v n : ℕ) : Type 0 where
  pub step : Step p v
  pub some : 0 < n
  pub rest : Counted p (above p v) 0 (n - 1)

-- v's last link is a step, and the climb goes on above it
pub record Climb (p : Parents) (v below : ℕ) : Type 0 where
  pub step : Step p v
  pub rest : Climbable p (above p v) (below + 1)

module _ {p : Parents} where
  climb_of : {v below : ℕ} {links : List ℕ} → Way p v links → v ≢ p.root → below + length links < most_nodes → Climb p v below
  climb_of at_root m l = absurd (m refl)
  climb_of (by_parent {v} {links} m s w) k l =
      let long = length-append links (link_to p v ∷ []) in
      record { step = s; rest = record { is_node = s.is_node; links = links; way = w; few = omega arith } }

  last_of : {v n : ℕ} {links : List ℕ} → Way p v links → v ≢ p.root → 0 + length links ≡ n → Last p v n
  last_of at_root m e = absurd (m refl)
  last_of (by_parent {v} {links} m s w) k e =
      let long = length-append links (link_to p v ∷ []) in
      record { step = s; some = omega arith; rest = record { links = links; way = w; count = omega arith } }

-- ---- below the root

module _ {p : Parents} {v : ℕ} (below_root : v ≢ p.root) where
  pub climb_last : {below : ℕ} → Climbable p v below → Climb p v below
  climb_last c = climb_of c.way below_root c.few

  pub counted_last : {n : ℕ} → Counted p v 0 n → Last p v n
  counted_last c = last_of c.way below_root c.count

  pub counted_more : {below total : ℕ} → Step p v → Counted p (above p v) (below + 1) total → Counted p v below total
  counted_more {below} {total} s c = record {
    links = c.links ++ (link_to p v ∷ []);
    way = by_parent below_root s c.way;
    count = omega (arith, c.count, length-append c.links (link_to p v ∷ []));
  }

  pub filled_more : {n : ℕ} {list exit : List ℕ} → Step p v → 0 < n → n ≤ length list
      → FilledFrom p (above p v) (n - 1) (set list (n - 1) (link_to p v)) exit → FilledFrom p v n list exit
  filled_more {n} {list} s some room f =
      let long : suc (length f.links) ≡ n = omega (arith, f.count) in
      record {
        links = f.links ++ (link_to p v ∷ []);
        way = by_parent below_root s f.way;
        count = omega (arith, f.count, length-append f.links (link_to p v ∷ []));
        listed = f.listed ∙ rw (← f.count) (written_last f.links (link_to p v) n list long room);
      }

-- ---- no path has as many links as there are nodes, since each of them starts at a nearer one

module _ (p : Parents) where
  abbrev dist_at : ℕ → ℕ
  dist_at v = get_or p.dist v 0

  -- how many nodes are nearer than d
  nearer_than : ℕ → ℕ
  nearer_than d = count (λ u. ltb (dist_at u) d) most_nodes

  not_nearer : (v : ℕ) → ¬ (T (ltb (dist_at v) (dist_at v)))
  not_nearer v t = let l = ltb→lt (dist_at v) (dist_at v) t in omega arith

  nearer_fewer : (u d : ℕ) → u < most_nodes → dist_at u < d → nearer_than (dist_at u) < nearer_than d
  unfolding nearer_than
  nearer_fewer u d l near =
      count_lt (λ x. ltb (dist_at x) (dist_at u)) (λ x. ltb (dist_at x) d) most_nodes
      (λ x m t. let q = ltb→lt (dist_at x) (dist_at u) t in lt→ltb (dist_at x) d (omega arith))
      u l (not_nearer u) (lt→ltb (dist_at u) d near)

  not_all_nearer : (v : ℕ) → v < most_nodes → nearer_than (dist_at v) < most_nodes
  unfolding nearer_than
  not_all_nearer v l =
      let fewer = count_lt (λ x. ltb (dist_at x) (dist_at v)) (λ x. true) most_nodes (λ x m t. tt) v l (not_nearer v) tt in
      omega (arith, count_all most_nodes)

  links_nearer : {v : ℕ} {links : List ℕ} → Way p v links → length links ≤ nearer_than (dist_at v)
  links_nearer at_root = omega arith
  links_nearer (by_parent {v} {links} m s w) =
      omega (arith, links_nearer w, length-append links (link_to p v ∷ []), nearer_fewer (above p v) (dist_at v) s.is_node s.nearer)

pub few_links : {p : Parents} {v n : ℕ} → v < most_nodes → Counted p v 0 n → n < most_nodes
few_links {p} {v} l c = omega (arith, c.count, links_nearer p c.way, not_all_nearer p v l)

-- ---- the answer

pub traced_short : {p : Parents} {node n : ℕ} {list : List ℕ} → Counted p node 0 n → length list < n → Traces p node list None list
traced_short c l = short c.way (omega (arith, c.count))

pub traced_whole : {p : Parents} {node n : ℕ} {room links list exit : List ℕ} → FilledFrom p node n room links → n ≤ length list
    → exit ≡ take n links ++ drop n list → Traces p node list (Some n) exit
traced_whole {n = n} {room} {links} f l e =
    let front : take n links ≡ f.links = rw f.listed (take_at f.links (drop (length f.links) room) n f.count) in
    rw (e, front, ← f.count) (traced f.way (omega (arith, f.count)))
