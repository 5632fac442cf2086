-- Two loops, over the links that leave a node and until nothing waits, and how they start. Assumes nothing.
use mathlib.Core.Path.{◌≡◌, sym, ◌∙◌}
use mathlib.Core.Logic.{◌≢◌}
use mathlib.Core.List.{List}
use Prim.Native.Nat.{ℕ, ◌+◌, ◌^◌, ◌≤◌, ◌<◌}
use native.Mathlib.Omega.{arith}
use native.Mathlib.Decide.{dec_lt, ℕ_discrete}
use lib.ListN.{length, get_or, set, replicate, length-set, length-replicate, get_or-eq_default}
use lib.Seq.{get_or-set_same, get_or-set_other}
use Rattle.rules.specs.Net.{Net, Usable, at_root}
use Rattle.rules.specs.Columns.{most_nodes}
use Rattle.level.specs.Level.{Level}
use Rattle.basics.proofs.Arrays.{rise}
use Rattle.queue.specs.Queue.{empty, key_of, NoneWaits, Nearest}
use Rattle.rules.proofs.Logic.{get_d_any}
use Rattle.basics.proofs.Arrays.{filled}
use Rattle.heads.specs.Heads.{Head}
use Rattle.offer.specs.Offer.{dist_at, key_at, Keyed, idle, waits, Lined, Offered}
use Rattle.offer.proofs.Laws.{waits_now, inside, entry, lined_taken}
use Rattle.afoot.specs.Afoot.{Orderly, NotFrom, Partly, Afoot, Settled, weight}
use Rattle.afoot.specs.Finding.{Taken, GoesOn, Served}
use Rattle.afoot.proofs.Reach.{Sure, sums}
use Rattle.afoot.proofs.Offers.{partly_fewer, link_fell, partly_more, others_still}
use Rattle.afoot.proofs.Finds.{on_fewer}
use Rattle.afoot.proofs.Weight.{weight_fell, weight_taken}

-- ---- the links that leave a node

pub starts_rise : {N : Net} → Orderly N → (i j : ℕ) → i ≤ j → j < N.links → N.start i ≤ N.start j
starts_rise {N} p = rise N.start N.links p.order

-- the links that leave u begin before k, and none from k on leaves it
pub part_past : {N : Net} → Orderly N → {u head k : ℕ} → Head N.links N.start u head → head ≤ k → (k < N.links → N.start k ≢ u)
    → (j : ℕ) → j < N.links → N.start j ≡ u → j < k
part_past {N} orderly {u} {head} {k} f begins past j link e = at (dec_lt j k)
  where
    at : Dec (j < k) → j < k
    at (yes before) = before
    at (no behind) =
        let from = starts_rise orderly head k begins (omega arith) in
        let to = starts_rise orderly k j (omega arith) link in
        absurd (past (omega arith) (omega (arith, from, to, f.leaves (omega arith))))

-- the links that leave u are offered up to k, from u's distance `near`; the weight was `heavy` before them
pub record Leaves (N : Net) (u first near heavy k : ℕ) (dist keys : List ℕ) : Type 0 where
  pub begins : first ≤ k
  pub within : k ≤ N.links
  pub near_is : dist_at N dist u ≡ near
  pub partly : Partly N (λ j. N.start j ≡ u → j < k) dist keys
  pub lighter : weight N dist keys ≤ heavy

pub leaves_from : {N : Net} {u first near heavy k : ℕ} {dist keys : List ℕ} → Leaves N u first near heavy k dist keys
    → {start : ℕ} → start ≡ u → dist_at N dist start ≡ near
leaves_from h e = rw e h.near_is

module _ {N : Net} {u first : ℕ} (f : Head N.links N.start u first) {dist keys : List ℕ} where
  pub leaves_none : Taken N u dist keys → Leaves N u first (get_or dist u 0) (weight N dist keys) first dist keys
  leaves_none t =
      let p = t.partly in
      record {
        begins = omega arith;
        within = f.within;
        near_is = get_d_any dist u N.mark 0 (omega (arith, inside p.begun.lined u t.near, p.begun.lined.long));
        partly = partly_fewer (λ j ok below e. f.before j (below e) e) p;
        lighter = omega arith;
      }

  module _ (orderly : Orderly N) {near heavy k : ℕ} (h : Leaves N u first near heavy k dist keys) where
    pub leaves_more : k < N.links → N.start k ≡ u → {dist' keys' : List ℕ} → Lined N.mark dist' keys'
        → Offered N k (near + N.cost k) dist keys dist' keys'
        → Leaves N u first near heavy (k + 1) dist' keys'
    leaves_more l leaves lined o =
        let from = leaves_from h leaves in
        record {
          begins = omega (arith, h.begins);
          within = omega arith;
          near_is = others_still orderly h.partly l from lined o u (λ e. orderly.apart k l (leaves ∙ e)) ∙ h.near_is;
          partly = partly_more orderly h.partly l from lined o (λ j below d e. omega (arith, below e));
          lighter = omega (arith, h.lighter, weight_fell (link_fell orderly h.partly l from lined o));
        }

    -- no link from k on leaves u
    module _ (past : k < N.links → N.start k ≢ u) where
      leaves_done : (j : ℕ) → Usable N j → Unit {0} → N.start j ≡ u → j < k
      leaves_done j ok any e = part_past orderly f h.begins past j ok.is_link e

      pub leaves_all : {dist₀ keys₀ found₀ found : List ℕ} → weight N dist₀ keys₀ ≡ heavy
          → GoesOn N (NotFrom N u) dist₀ keys₀ found₀ (λ j. N.start j ≡ u → j < k) dist keys found
          → Served N u dist₀ keys₀ found₀ dist keys found
      leaves_all e g =
          record {
            afoot = partly_fewer leaves_done h.partly;
            lighter = omega (arith, h.lighter);
            goes_on = on_fewer leaves_done g;
          }

-- ---- until nothing waits

-- u waits
pub record Chosen (mark : ℕ) (dist keys : List ℕ) (u : ℕ) : Type 0 where
  pub is_node : u < most_nodes
  pub near : get_or dist u mark < mark
  pub waiting : key_at keys u ≢ empty

module _ {mark : ℕ} {dist keys : List ℕ} (h : Lined mark dist keys) where
  pub chosen : {u : ℕ} {keys' : List ℕ} → Nearest keys u keys' → Chosen mark dist keys u
  chosen {u} n = by (h.keyed u)
    where
      waiting : key_at keys u ≢ empty
      waiting e = n.waits (get_d_any keys u 0 empty (omega (arith, n.is_node, h.keys_long)) ∙ e)

      by : Keyed mark (get_or dist u mark) (key_at keys u) u → Chosen mark dist keys u
      by (idle e) = absurd (waiting e)
      by (waits near e) = record { is_node = n.is_node; near = near; waiting = waiting }

  pub none_waits : NoneWaits keys → (v : ℕ) → key_at keys v ≡ empty
  none_waits none v = at (dec_lt v most_nodes)
    where
      at : Dec (v < most_nodes) → key_at keys v ≡ empty
      at (yes n) = get_d_any keys v empty 0 (omega (arith, h.keys_long)) ∙ none v n
      at (no n) = get_or-eq_default keys empty (omega (arith, h.keys_long))

-- u is taken: of the links, only those that leave it aren't done
module _ {N : Net} {dist keys : List ℕ} (p : Afoot N dist keys) {u : ℕ} (c : Chosen N.mark dist keys u) {keys' : List ℕ}
    (r : keys' ≡ set keys u empty) where
  in_keys : u < length keys
  in_keys = omega (arith, c.is_node, p.begun.lined.keys_long)

  other_key : (v : ℕ) → v ≢ u → key_at keys' v ≡ key_at keys v
  other_key v d = rw r (get_or-set_other keys u v empty empty d)

  partly_taken : Partly N (NotFrom N u) dist keys'
  partly_taken =
      record {
        begun = record {
          lined = record {
            mark_fits = p.begun.lined.mark_fits;
            long = p.begun.lined.long;
            keys_long = rw (r, length-set) p.begun.lined.keys_long;
            most = p.begun.lined.most;
            keyed = λ v. keyed v (ℕ_discrete v u);
          };
          root_zero = p.begun.root_zero;
          walks = p.begun.walks;
        };
        calm = λ k ok apart. record { calm = λ none near. (p.calm k ok tt).calm (sym (other_key (N.start k) apart) ∙ none) near };
      }
    where
      keyed : (v : ℕ) → Dec (v ≡ u) → Keyed N.mark (dist_at N dist v) (key_at keys' v) v
      keyed v (yes e) = idle (rw (e, r) (get_or-set_same keys u empty empty in_keys))
      keyed v (no d) = rw (other_key v d) (p.begun.lined.keyed v)

  pub node_taken : Taken N u dist keys'
  node_taken = record { partly = partly_taken; near = c.near }

  pub lighter : weight N dist keys' < weight N dist keys
  lighter = rw r (weight_taken N dist keys u in_keys c.waiting c.is_node)

pub settled : {N : Net} → Level N → {dist keys : List ℕ} → Afoot N dist keys → NoneWaits keys → Settled N dist keys
settled {N} level {dist} {keys} p none =
    record { sums = sums sure level; lined = p.begun.lined; none_waits = rest }
  where
    rest : (v : ℕ) → key_at keys v ≡ empty
    rest = none_waits p.begun.lined none

    sure : Sure N (λ v. dist_at N dist v)
    sure = record {
      root_zero = p.begun.root_zero;
      most = p.begun.lined.most;
      walks = p.begun.walks;
      no_less = λ k ok near. (p.calm k ok tt).calm (rest (N.start k)) near;
    }

-- ---- where the loop starts

-- nothing waits
pub lined_none : {mark : ℕ} {dist : List ℕ} → mark < 2 ^ 32 → length dist ≡ most_nodes → ((v : ℕ) → get_or dist v mark ≤ mark)
    → Lined mark dist (replicate most_nodes empty)
lined_none fits long most =
    record { mark_fits = fits; long = long; keys_long = length-replicate most_nodes empty; most = most; keyed = λ v. idle (filled most_nodes empty v) }

-- only the root is reached, and waits
pub record Alone (N : Net) (dist keys : List ℕ) : Type 0 where
  pub afoot : Afoot N dist keys
  pub far : (v : ℕ) → v ≢ N.root → dist_at N dist v ≡ N.mark

module _ (N : Net) (is_node : N.root < most_nodes) (fits : N.mark < 2 ^ 32) (far_off : 0 < N.mark) {keys' : List ℕ}
    (r : keys' ≡ set (replicate most_nodes empty) N.root (key_of 0 N.root)) where
  abbrev blank : List ℕ
  blank = replicate most_nodes N.mark

  no_one : (v : ℕ) → dist_at N blank v ≡ N.mark
  no_one v = filled most_nodes N.mark v

  lined_blank : Lined N.mark blank (replicate most_nodes empty)
  lined_blank = lined_none fits (length-replicate most_nodes N.mark) (λ v. omega (arith, no_one v))

  lined_seed : Lined N.mark (set blank N.root 0) keys'
  lined_seed = rw r (lined_taken lined_blank is_node (omega (arith, entry lined_blank is_node, no_one N.root)))

  root_zero : dist_at N (set blank N.root 0) N.root ≡ 0
  root_zero = get_or-set_same blank N.root 0 N.mark (omega (arith, lined_blank.long))

  root_waits : key_at keys' N.root ≡ key_of 0 N.root
  root_waits = rw r (get_or-set_same (replicate most_nodes empty) N.root (key_of 0 N.root) empty (omega (arith, lined_blank.keys_long)))

  others_far : (v : ℕ) → v ≢ N.root → dist_at N (set blank N.root 0) v ≡ N.mark
  others_far v d = get_or-set_other blank N.root v 0 N.mark d ∙ no_one v

  only_root : (v : ℕ) → dist_at N (set blank N.root 0) v < N.mark → v ≡ N.root
  only_root v near = at (ℕ_discrete v N.root)
    where
      at : Dec (v ≡ N.root) → v ≡ N.root
      at (yes e) = e
      at (no d) = absurd (omega (arith, others_far v d))

  pub alone : Alone N (set blank N.root 0) keys'
  alone =
      record {
        afoot = record {
          begun = record {
            lined = lined_seed;
            root_zero = root_zero;
            walks = λ v near. rw (only_root v near) (record { sum = 0; walk = at_root; within = omega arith });
          };
          calm = λ k ok any. record { calm = λ none near. absurd (root_busy (only_root (N.start k) near) none) };
        };
        far = others_far;
      }
    where
      root_busy : {v : ℕ} → v ≡ N.root → key_at keys' v ≡ empty → ⊥
      root_busy e none = waits_now fits is_node far_off root_waits (rw e at none)
