-- What a node that goes to unreached leaves standing, and why what is left over has walks. Assumes nothing.
use mathlib.Core.Path.{◌≡◌, ◌∙◌}
use mathlib.Core.Logic.{◌≢◌}
use mathlib.Core.List.{List}
use Prim.Native.Nat.{ℕ, ◌+◌, ◌≤◌, ◌<◌}
use native.Mathlib.Omega.{arith}
use native.Mathlib.Decide.{ℕ_discrete}
use lib.Dec.{T, ltb, ltb→lt, lt→ltb}
use lib.ListN.{set, length-set}
use lib.Seq.{get_or-set_same, get_or-set_other}
use Rattle.rules.specs.Net.{Net, at_root, along}
use Rattle.rules.specs.Columns.{most_nodes}
use Rattle.rules.proofs.Logic.{by_size, count_lt}
use Rattle.queue.specs.Queue.{empty, NoneWaits}
use Rattle.offer.specs.Offer.{dist_at, key_at, Keyed, idle, Lined}
use Rattle.afoot.specs.Afoot.{Within}
use Rattle.afoot.specs.Finding.{Carries}
use Rattle.afoot.proofs.Rounds.{Chosen, none_waits}
use Rattle.lift.specs.Loose as loose
use Rattle.lift.specs.Loose.{parent_at, Stands, Hangs, AllStand, StandBut, Lifted, Fate, stays, goes, Fates, reached_count}

-- ---- a node goes to unreached

module _ {N : Net} {parent dist keys : List ℕ} (h : AllStand N parent dist keys) {u : ℕ} (w : Chosen N.mark dist keys u)
    {keys' : List ℕ} (r : keys' ≡ set keys u empty) where
  not_root : N.root ≢ u
  not_root e = w.waiting (rw e at h.root_idle)

  far : dist_at N (set dist u N.mark) u ≡ N.mark
  far = get_or-set_same dist u N.mark N.mark (omega (arith, h.lined.long, w.is_node))

  dist_still : (v : ℕ) → v ≢ u → dist_at N (set dist u N.mark) v ≡ dist_at N dist v
  dist_still v n = get_or-set_other dist u v N.mark N.mark n

  key_still : (v : ℕ) → v ≢ u → key_at keys' v ≡ key_at keys v
  key_still v n = rw r (get_or-set_other keys u v empty empty n)

  key_gone : key_at keys' u ≡ empty
  key_gone = rw r (get_or-set_same keys u empty empty (omega (arith, h.lined.keys_long, w.is_node)))

  lined_lift : Lined N.mark (set dist u N.mark) keys'
  lined_lift =
      record {
        mark_fits = h.lined.mark_fits;
        long = length-set dist u N.mark ∙ h.lined.long;
        keys_long = rw (r, length-set) h.lined.keys_long;
        most = λ v. most v (ℕ_discrete v u);
        keyed = λ v. keyed v (ℕ_discrete v u);
      }
    where
      most : (v : ℕ) → Dec (v ≡ u) → dist_at N (set dist u N.mark) v ≤ N.mark
      most v (yes e) = rw (e, far) (omega arith)
      most v (no n) = rw (dist_still v n) (h.lined.most v)

      keyed : (v : ℕ) → Dec (v ≡ u) → Keyed N.mark (dist_at N (set dist u N.mark) v) (key_at keys' v) v
      keyed v (yes e) = rw e (idle key_gone)
      keyed v (no n) = rw (dist_still v n, key_still v n) (h.lined.keyed v)

  -- a link from another node carries as before
  carries_still : {k v : ℕ} → N.start k ≢ u → v ≢ u → Carries N dist k v → Carries N (set dist u N.mark) k v
  carries_still {k} {v} m n c =
      record { usable = c.usable; ends_at = c.ends_at; reached = rw (dist_still (N.start k) m) c.reached; enough = rw (dist_still (N.start k) m, dist_still v n) c.enough }

  -- only the nodes that hang on u may stand no more
  pub lift_stands : StandBut N parent u (set dist u N.mark) keys'
  lift_stands =
      record {
        lined = lined_lift;
        root_zero = dist_still N.root not_root ∙ h.root_zero;
        root_idle = key_still N.root not_root ∙ h.root_idle;
        standing = λ v free. at v free (ℕ_discrete v u);
      }
    where
      by : (v : ℕ) → (Hangs N parent u v → ⊥) → v ≢ u → Stands N parent dist keys v → Stands N parent (set dist u N.mark) keys' v
      by v free n (loose.bare d) = loose.bare (dist_still v n ∙ d)
      by v free n (loose.root e) = loose.root e
      by v free n (loose.waits k) = loose.waits (rw (key_still v n) k)
      by v free n (loose.carried c) =
          loose.carried (carries_still (λ e. free (record { is_link = c.usable.is_link; leaves = e; ends_at = c.ends_at })) n c)

      at : (v : ℕ) → (Hangs N parent u v → ⊥) → Dec (v ≡ u) → Stands N parent (set dist u N.mark) keys' v
      at v free (yes e) = rw e (loose.bare far)
      at v free (no n) = by v free n (h.standing v tt)

  -- one node less is reached
  pub lift_falls : reached_count N (set dist u N.mark) < reached_count N dist
  unfolding reached_count
  lift_falls =
      count_lt (λ v. ltb (dist_at N (set dist u N.mark) v) N.mark) (λ v. ltb (dist_at N dist v) N.mark) most_nodes
      (λ v l p. still v p (ℕ_discrete v u)) u w.is_node (λ p. let q = ltb→lt (dist_at N (set dist u N.mark) u) N.mark p in omega (arith, far))
      (lt→ltb (dist_at N dist u) N.mark w.near)
    where
      still : (v : ℕ) → T (ltb (dist_at N (set dist u N.mark) v) N.mark) → Dec (v ≡ u) → T (ltb (dist_at N dist v) N.mark)
      still v p (yes e) = lt→ltb (dist_at N dist v) N.mark (rw e w.near)
      still v p (no n) = rw (dist_still v n) at p

-- ---- no node waits

module _ {N : Net} {parent dist keys : List ℕ} (h : AllStand N parent dist keys) (none : (v : ℕ) → key_at keys v ≡ empty) where
  abbrev Walked : ℕ → Type 0
  Walked v = dist_at N dist v < N.mark → Within N v (dist_at N dist v)

  -- a carried node is farther than its parent link's start
  walks : (v : ℕ) → Walked v
  walks = by_size (λ v. dist_at N dist v) Walked (λ v before near. at v before near (h.standing v tt))
    where
      at : (v : ℕ) → ((u : ℕ) → dist_at N dist u < dist_at N dist v → Walked u) → dist_at N dist v < N.mark → Stands N parent dist keys v
          → Within N v (dist_at N dist v)
      at v before near (loose.bare e) = absurd (omega arith)
      at v before near (loose.root e) = rw e (record { sum = 0; walk = at_root; within = omega arith })
      at v before near (loose.waits k) = absurd (k (none v))
      at v before near (loose.carried c) =
          let k = parent_at N parent v in
          let w = before (N.start k) (omega (arith, c.enough, c.usable.costs)) c.reached in
          let walk = rw c.ends_at at (along k c.usable w.walk) in
          record { sum = w.sum + N.cost k; walk = walk; within = omega (arith, w.within, c.enough) }

  still : (v : ℕ) → dist_at N dist v < N.mark → v ≢ N.root → Carries N dist (parent_at N parent v) v
  still v near n = at (h.standing v tt)
    where
      at : Stands N parent dist keys v → Carries N dist (parent_at N parent v) v
      at (loose.bare e) = absurd (omega arith)
      at (loose.root e) = absurd (n e)
      at (loose.waits k) = absurd (k (none v))
      at (loose.carried c) = c

  all_lifted : Lifted N parent dist keys
  all_lifted = record { begun = record { lined = h.lined; root_zero = h.root_zero; walks = walks }; carried = still; none_waits = none }

pub lifted : {N : Net} {parent dist keys : List ℕ} → AllStand N parent dist keys → NoneWaits keys → Lifted N parent dist keys
lifted h none = all_lifted h (none_waits h.lined none)
