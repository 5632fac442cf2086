-- The least of a run of places: of two runs that meet, with a place set elsewhere, and with a place lowered. One law
-- each, for the keys and for what stands above them. Then the queue with one key set, and what a caller reads. Assumes
-- nothing.
use mathlib.Core.Path.{◌≡◌, refl, sym, ◌∙◌}
use mathlib.Core.Logic.{◌⊎◌, inl, inr, ◌≢◌}
use mathlib.Core.List.{List}
use Prim.Native.Nat.{ℕ, ◌+◌, ◌*◌, ◌-◌, ◌/◌, ◌%◌, ◌≤◌, ◌<◌, min}
use native.Mathlib.Omega.{arith}
use native.Mathlib.Decide.{dec_lt, ℕ_discrete}
use lib.ListN.{length, get_or, set, replicate, length-set, length-replicate, get_or-replicate}
use lib.Seq.{get_or-set_same, get_or-set_other}
use Rattle.queue.specs.Queue.{empty, Least, Heaped, NoneWaits, Nearest}

-- r is the lesser of two numbers
pub record Lesser (a b r : ℕ) : Type 0 where
  pub left : r ≤ a
  pub right : r ≤ b
  pub one : (r ≡ a) ⊎ (r ≡ b)

pub lesser : {a b r : ℕ} → r ≡ min a b → Lesser a b r
lesser {a} {b} {r} e = record { left = omega arith; right = omega arith; one = by (dec_lt a b) }
  where
    by : Dec (a < b) → (r ≡ a) ⊎ (r ≡ b)
    by (yes l) = inl (omega arith)
    by (no l) = inr (omega arith)

-- ---- the least of a run of places

pub least_one : (xs : List ℕ) (at : ℕ) {to : ℕ} → to ≡ at + 1 → Least xs at to (get_or xs at 0)
least_one xs at e = record { low = λ i a b. let only : i ≡ at = omega arith in rw only (omega arith); place = at; not_before = omega arith; not_behind = omega arith; here = refl }

-- of two runs that meet
pub least_both : {xs : List ℕ} {from mid to a b r : ℕ} → Least xs from mid a → Least xs mid to b → Lesser a b r → Least xs from to r
least_both {xs} {from} {mid} {to} {a} {b} {r} p q l = at l.one
  where
    low : (i : ℕ) → from ≤ i → i < to → r ≤ get_or xs i 0
    low i m n = by (dec_lt i mid)
      where
        by : Dec (i < mid) → r ≤ get_or xs i 0
        by (yes before) = omega (arith, p.low i m before, l.left)
        by (no behind) = omega (arith, q.low i (omega arith) n, l.right)

    at : (r ≡ a) ⊎ (r ≡ b) → Least xs from to r
    at (inl e) = record { low = low; place = p.place; not_before = p.not_before; not_behind = omega (arith, p.not_behind, q.not_before, q.not_behind); here = p.here ∙ sym e }
    at (inr e) = record { low = low; place = q.place; not_before = omega (arith, q.not_before, p.not_before, p.not_behind); not_behind = q.not_behind; here = q.here ∙ sym e }

-- a place outside the run is set
pub least_elsewhere : {xs : List ℕ} {from to r : ℕ} → Least xs from to r → (at key : ℕ) → ((i : ℕ) → from ≤ i → i < to → i ≢ at)
    → Least (set xs at key) from to r
least_elsewhere {xs} {from} {to} {r} h at key apart =
    record {
      low = λ i a b. rw (still i a b) (h.low i a b);
      place = h.place;
      not_before = h.not_before;
      not_behind = h.not_behind;
      here = still h.place h.not_before h.not_behind ∙ h.here;
    }
  where
    still : (i : ℕ) → from ≤ i → i < to → get_or (set xs at key) i 0 ≡ get_or xs i 0
    still i a b = get_or-set_other xs at i key 0 (apart i a b)

-- a place of the run is lowered: the least is the lesser of its new number and the least before
pub least_lower : {xs : List ℕ} {from to old : ℕ} → Least xs from to old → {at key r : ℕ} → from ≤ at → at < to → at < length xs
    → key ≤ get_or xs at 0 → Lesser key old r → Least (set xs at key) from to r
least_lower {xs} {from} {to} {old} h {at} {key} {r} m n inside lower l = by l.one (ℕ_discrete h.place at)
  where
    same : get_or (set xs at key) at 0 ≡ key
    same = get_or-set_same xs at key 0 inside

    low : (i : ℕ) → from ≤ i → i < to → r ≤ get_or (set xs at key) i 0
    low i a b = of (ℕ_discrete i at)
      where
        of : Dec (i ≡ at) → r ≤ get_or (set xs at key) i 0
        of (yes e) = rw (e, same) l.left
        of (no d) = rw (get_or-set_other xs at i key 0 d) (omega (arith, h.low i a b, l.right))

    here : r ≡ key → Least (set xs at key) from to r
    here e = record { low = low; place = at; not_before = m; not_behind = n; here = same ∙ sym e }

    by : (r ≡ key) ⊎ (r ≡ old) → Dec (h.place ≡ at) → Least (set xs at key) from to r
    by (inl e) d = here e
    by (inr e) (yes p) =
        let own : get_or xs at 0 ≡ old = rw p at h.here in
        here (omega (arith, l.left))
    by (inr e) (no d) =
        record { low = low; place = h.place; not_before = h.not_before; not_behind = h.not_behind; here = get_or-set_other xs at h.place key 0 d ∙ h.here ∙ sym e }

-- ---- the queue with one key set

module _ {keys mins : List ℕ} (q : Heaped keys mins) {node : ℕ} (is_node : node < 256) {key : ℕ} (fits : key ≤ empty) (named : key ≢ empty → key % 256 ≡ node) where
  -- the four and the eight that the node stands in, made anew
  pub heaped : {x y : ℕ} → Least (set keys node key) (node / 4 * 4) (node / 4 * 4 + 4) x
      → Least (set mins (node / 4) x) (node / 32 * 8) (node / 32 * 8 + 8) y
      → Heaped (set keys node key) (set (set mins (node / 4) x) (64 + node / 32) y)
  heaped {x} {y} four eight =
      record {
        keys_long = length-set keys node key ∙ q.keys_long;
        mins_long = length-set (set mins (node / 4) x) (64 + node / 32) y ∙ length-set mins (node / 4) x ∙ q.mins_long;
        fours = λ g l. rw (get_or-set_other (set mins (node / 4) x) (64 + node / 32) g y 0 (omega arith)) (fours g l (ℕ_discrete g (node / 4)));
        eights = λ g l. least_elsewhere (eights g l (ℕ_discrete g (node / 32))) (64 + node / 32) y (λ i a b. omega arith);
        fits = λ v l. below v l (ℕ_discrete v node);
        named = λ v l. still v l (ℕ_discrete v node);
      }
    where
      fours : (g : ℕ) → g < 64 → Dec (g ≡ node / 4) → Least (set keys node key) (g * 4) (g * 4 + 4) (get_or (set mins (node / 4) x) g 0)
      fours g l (yes e) = rw (e, get_or-set_same mins (node / 4) x 0 (omega (arith, q.mins_long))) four
      fours g l (no d) = rw (get_or-set_other mins (node / 4) g x 0 d) (least_elsewhere (q.fours g l) node key (λ i a b e. d (omega arith)))

      eights : (g : ℕ) → g < 8 → Dec (g ≡ node / 32) → Least (set mins (node / 4) x) (g * 8) (g * 8 + 8) (get_or (set (set mins (node / 4) x) (64 + node / 32) y) (64 + g) 0)
      eights g l (yes e) =
          rw (e, get_or-set_same (set mins (node / 4) x) (64 + node / 32) y 0 (omega (arith, length-set mins (node / 4) x, q.mins_long))) eight
      eights g l (no d) =
          rw (get_or-set_other (set mins (node / 4) x) (64 + node / 32) (64 + g) y 0 (omega arith), get_or-set_other mins (node / 4) (64 + g) x 0 (omega arith))
          (least_elsewhere (q.eights g l) (node / 4) x (λ i a b e. d (omega arith)))

      below : (v : ℕ) → v < 256 → Dec (v ≡ node) → get_or (set keys node key) v 0 ≤ empty
      below v l (yes e) = rw (e, get_or-set_same keys node key 0 (omega (arith, q.keys_long))) fits
      below v l (no d) = rw (get_or-set_other keys node v key 0 d) (q.fits v l)

      still : (v : ℕ) → v < 256 → Dec (v ≡ node) → get_or (set keys node key) v 0 ≢ empty → get_or (set keys node key) v 0 % 256 ≡ v
      still v l (yes e) = rw (e, get_or-set_same keys node key 0 (omega (arith, q.keys_long))) named
      still v l (no d) = rw (get_or-set_other keys node v key 0 d) (q.named v l)

  -- a key that is at most the node's own
  pub heaped_lower : key ≤ get_or keys node 0 → {x y : ℕ} → x ≡ min key (get_or mins (node / 4) 0) → y ≡ min x (get_or (set mins (node / 4) x) (64 + node / 32) 0)
      → Heaped (set keys node key) (set (set mins (node / 4) x) (64 + node / 32) y)
  heaped_lower own {x} a b =
      let four = lesser a in
      let top = get_or-set_other mins (node / 4) (64 + node / 32) x 0 (omega arith) in
      heaped
      (least_lower (q.fours (node / 4) (omega arith)) (omega arith) (omega arith) (omega (arith, q.keys_long)) own four)
      (least_lower (q.eights (node / 32) (omega arith)) (omega arith) (omega arith) (omega (arith, q.mins_long)) four.right (rw top at (lesser b)))

-- ---- what a caller reads

-- nothing waits
pub heaped_none : Heaped (replicate 256 empty) (replicate 72 empty)
heaped_none =
    record {
      keys_long = length-replicate 256 empty;
      mins_long = length-replicate 72 empty;
      fours = λ g l. rw (get_or-replicate 72 g empty 0 (omega arith)) (run 256 (g * 4) (g * 4 + 4) (omega arith) (omega arith));
      eights = λ g l. rw (get_or-replicate 72 (64 + g) empty 0 (omega arith)) (run 72 (g * 8) (g * 8 + 8) (omega arith) (omega arith));
      fits = λ v l. rw (get_or-replicate 256 v empty 0 l) (omega arith);
      named = λ v l n. absurd (n (get_or-replicate 256 v empty 0 l));
    }
  where
    run : (n from to : ℕ) → from < to → to ≤ n → Least (replicate n empty) from to empty
    run n from to some most =
        record {
          low = λ i a b. rw (get_or-replicate n i empty 0 (omega arith)) (omega arith);
          place = from;
          not_before = omega arith;
          not_behind = some;
          here = get_or-replicate n from empty 0 (omega arith);
        }

-- the least of the top is the least key
least_key : {keys mins : List ℕ} {r : ℕ} → Heaped keys mins → Least mins 64 72 r → Least keys 0 256 r
least_key {keys} {mins} {r} q top =
    let above : 64 + (top.place - 64) ≡ top.place = omega (arith, top.not_before) in
    let eight = rw above at (q.eights (top.place - 64) (omega (arith, top.not_before, top.not_behind))) in
    let four = q.fours eight.place (omega (arith, eight.not_behind, top.not_behind)) in
    record {
      low = λ i a b. omega (arith, top.low (64 + i / 32) (omega arith) (omega arith), (q.eights (i / 32) (omega arith)).low (i / 4) (omega arith) (omega arith), (q.fours (i / 4) (omega arith)).low i (omega arith) (omega arith));
      place = four.place;
      not_before = omega arith;
      not_behind = omega (arith, four.not_behind, eight.not_behind, top.not_behind);
      here = four.here ∙ eight.here ∙ top.here;
    }

module _ {keys mins : List ℕ} {r : ℕ} (q : Heaped keys mins) (top : Least mins 64 72 r) where
  pub none_waits : r ≡ empty → NoneWaits keys
  none_waits e v l = omega (arith, q.fits v l, (least_key q top).low v (omega arith) l)

  pub all_wait_not : NoneWaits keys → r ≡ empty
  all_wait_not n = let least = least_key q top in sym least.here ∙ n least.place least.not_behind

  pub nearest : r ≢ empty → Nearest keys (r % 256) (set keys (r % 256) empty)
  nearest n =
      let least = least_key q top in
      let name : r % 256 ≡ least.place = rw least.here at (q.named least.place least.not_behind (rw least.here n)) in
      let here : get_or keys (r % 256) 0 ≡ r = rw name least.here in
      record { is_node = omega arith; waits = rw here n; least = λ v l. rw here (least.low v (omega arith) l); is_set = refl }
