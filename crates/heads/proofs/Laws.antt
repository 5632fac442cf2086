-- The first link of each node, found by storing every link from the last to the first. Assumes nothing.
use mathlib.Core.Path.{◌≡◌, refl, sym, ◌∙◌}
use mathlib.Core.Logic.{◌≢◌}
use mathlib.Core.List.{List}
use Prim.Native.Nat.{ℕ, ◌-◌, ◌≤◌, ◌<◌}
use native.Mathlib.Omega.{arith}
use native.Mathlib.Decide.{ℕ_discrete}
use lib.ListN.{length, get_or, set, replicate, length-set, length-replicate, get_or-replicate}
use lib.Seq.{get_or-set_same, get_or-set_other}
use Rattle.rules.specs.Columns.{most_nodes}
use Rattle.heads.specs.Heads.{Heads}

-- of the links from k on, `head` is the first that leaves u
pub record HeadFrom (starts : List ℕ) (k u head : ℕ) : Type 0 where
  pub behind : k ≤ head
  pub within : head ≤ length starts
  pub before : (j : ℕ) → k ≤ j → j < head → get_or starts j 0 ≢ u
  pub leaves : head < length starts → get_or starts head 0 ≡ u

pub record Stored (starts : List ℕ) (k : ℕ) (at : List ℕ) : Type 0 where
  pub long : length at ≡ most_nodes
  pub within : k ≤ length starts
  pub each : (u : ℕ) → u < most_nodes → HeadFrom starts k u (get_or at u 0)

module _ (starts : List ℕ) where
  pub stored_none : Stored starts (length starts) (replicate most_nodes (length starts))
  stored_none = record { long = length-replicate most_nodes (length starts); within = omega arith; each = λ u l. rw (get_or-replicate most_nodes u (length starts) 0 l) (none u) }
    where
      none : (u : ℕ) → HeadFrom starts (length starts) u (length starts)
      none u = record { behind = omega arith; within = omega arith; before = λ j a b. absurd (omega arith); leaves = λ l. absurd (omega arith) }

  pub stored_all : {at : List ℕ} {k : ℕ} → Stored starts k at → k ≤ 0 → Heads starts at
  stored_all s l =
      record {
        long = s.long;
        each = λ u n. let f = s.each u n in record { within = f.within; before = λ j m. f.before j (omega arith) m; leaves = f.leaves };
      }

  module _ {at : List ℕ} {k : ℕ} (s : Stored starts k at) (some : 0 < k) (node : get_or starts (k - 1) 0 < most_nodes) where
    pub stored_more : Stored starts (k - 1) (set at (get_or starts (k - 1) 0) (k - 1))
    stored_more =
        record {
          long = length-set at (get_or starts (k - 1) 0) (k - 1) ∙ s.long;
          within = omega (arith, s.within);
          each = λ u n. by u n (ℕ_discrete u (get_or starts (k - 1) 0));
        }
      where
        by : (u : ℕ) → u < most_nodes → Dec (u ≡ get_or starts (k - 1) 0) → HeadFrom starts (k - 1) u (get_or (set at (get_or starts (k - 1) 0) (k - 1)) u 0)
        by u n (yes e) =
            rw (e, get_or-set_same at (get_or starts (k - 1) 0) (k - 1) 0 (omega (arith, s.long)))
            (record { behind = omega arith; within = omega (arith, s.within); before = λ j a b. absurd (omega arith); leaves = λ l. refl })
        by u n (no d) = rw (get_or-set_other at (get_or starts (k - 1) 0) u (k - 1) 0 d) (still (s.each u n))
          where
            still : HeadFrom starts k u (get_or at u 0) → HeadFrom starts (k - 1) u (get_or at u 0)
            still f = record { behind = omega (arith, f.behind); within = f.within; before = λ j a b. apart j b (ℕ_discrete j (k - 1)) a; leaves = f.leaves }
              where
                apart : (j : ℕ) → j < get_or at u 0 → Dec (j ≡ k - 1) → k - 1 ≤ j → get_or starts j 0 ≢ u
                apart j b (yes e) a = λ q. d (sym (rw e at q))
                apart j b (no m) a = f.before j (omega arith) b
