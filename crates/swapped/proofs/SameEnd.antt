-- Batches without a common link, in any order and as one: what is alike at the end. Assumes nothing.
use mathlib.Core.Path.{◌≡◌, refl, sym, subst, ap, ◌∙◌}
use mathlib.Core.Logic.{◌≢◌}
use mathlib.Core.List.{List, [], ◌∷◌, ◌++◌}
use Prim.Native.Nat.{ℕ, ◌+◌, ◌≤◌}
use lib.ListN.{length, get_or}
use lib.Seq.{ext_get_or}
use Rattle.rules.specs.Columns.{Table, Arrays, Whole, net_of, rows_of, applied, most_rows, unreached, with_costs}
use Rattle.rules.specs.Refusals.{Verdict, accepted, judge_tree}
use Rattle.rules.specs.Jobs.{Updated}
use Rattle.rules.specs.Demands.{Stands}
use Rattle.rules.specs.declared.Change.{Change}
use Rattle.rules.proofs.Unique.{same_dist, same_tight, Kinds, roots, hungs, bares, kinds}
use Rattle.rules.proofs.Judged.{legal, tree_accepted}
use Rattle.rules.proofs.Accepted.{Good, update_good}
use Rattle.demands.proofs.Demands.{stands_good, stands_accepted}
use Rattle.swapped.specs.Swapped.{Arrive, Acceptable, NoCommonLink, Each, NoneCommon, Reordered, TwoTight, SameEnd, AlwaysSame}
use Rattle.swapped.proofs.Costs.{as_one, all_applied, each_reordered, any_way}
use Rattle.swapped.proofs.Acceptable.{batch_tree, taken, still_acceptable, acceptable_as_one}

-- two trees that fit one table
module _ {t : Table} {tree other : Arrays} (g : Good t tree) (h : Good t other) where
  one_table : SameEnd t tree t other
  one_table = record {
    table = refl;
    costs = refl;
    distances = ext_get_or unreached tree.dist other.dist (g.whole.dist ∙ sym h.whole.dist) (λ v l. same v);
    reached = λ v r e. r (same v ∙ e);
    only_reached = λ v r e. r (sym (same v) ∙ e);
    parents = λ v n. at v n (kinds (legal g.table) g.fits h.fits v);
  }
    where
      same : (v : ℕ) → (rows_of tree).dist v ≡ (rows_of other).dist v
      same = same_dist (legal g.table) g.fits h.fits

      at : (v : ℕ) → (rows_of tree).parent v ≢ (rows_of other).parent v → Kinds (net_of t) (rows_of tree) (rows_of other) v → TwoTight (net_of t) (rows_of tree) v
      at v n (roots a b) = absurd (n (a.no_parent ∙ sym b.no_parent))
      at v n (hungs a b) = record {
        one = (rows_of tree).parent v;
        other = (rows_of other).parent v;
        are_two = n;
        one_tight = a.tight;
        other_tight = same_tight (legal g.table) h.fits g.fits b.tight;
      }
      at v n (bares a b) = absurd (n (a.no_parent ∙ sym b.no_parent))

-- and so of two tables that are one
same_table : {t s : Table} {tree other : Arrays} → t ≡ s → Good t tree → Good s other → SameEnd t tree s other
same_table {t} {s} {tree} {other} e g h = subst (λ (z : Table). Good z other → SameEnd t tree z other) e (λ k. one_table g k) h

-- ---- what acceptable batches leave

record Arrived (t : Table) (costs : List ℕ) (s : Table) (tree : Arrays) : Type 0 where
  good : Good s tree
  table : s ≡ with_costs t costs

each_still : {t : Table} {old new : Arrays} {batch : List Change} {batches : List (List Change)} {list costs listed : List ℕ} {v : Verdict} {count : ℕ} → Acceptable t old batch
    → t.nodes ≤ length list → Updated t old batch list v new costs listed count → Each (Acceptable t old) batches → Each (Acceptable (with_costs t costs) new) batches
each_still a l u Each.none = Each.none
each_still a l u (Each.more {batch = other} b e) = Each.more (still_acceptable a l u other b) (each_still a l u e)

arrived : {t s : Table} {old tree : Arrays} {batches : List (List Change)} → Good t old → Each (Acceptable t old) batches → Arrive t old batches s tree
    → Arrived t (all_applied batches t.costs) s tree
unfolding all_applied
arrived g e Arrive.none = record { good = g; table = refl }
arrived {t} g (Each.more a e) (Arrive.next {new = new} {batches = batches} {costs = costs} l u rest) =
    let is = (taken a l u).costs in
    let fine = subst (λ (c : List ℕ). Good (with_costs t c) new) (sym is) (update_good (taken a l u)) in
    let later = arrived fine (each_still a l u e) rest in
    record { good = later.good; table = later.table ∙ ap (λ (c : List ℕ). with_costs t (all_applied batches c)) is }

good_from : {t : Table} {old : Arrays} → Whole old → judge_tree t old ≡ accepted → Good t old
good_from {t} {old} w e = let fine = tree_accepted t old w e in record { table = fine.0; whole = w; fits = fine.1 }

-- ---- any number of batches, in any order

pub any_order : {t s z : Table} {old tree other : Arrays} {batches others : List (List Change)} → Whole old → judge_tree t old ≡ accepted
    → Each (Acceptable t old) batches → NoneCommon batches → Reordered batches others → Arrive t old batches s tree → Arrive t old others z other
    → SameEnd s tree z other
any_order {t} w e a n r x y =
    let one = arrived (good_from w e) a x in
    let two = arrived (good_from w e) (each_reordered r a) y in
    same_table (one.table ∙ ap (with_costs t) (any_way r n t.costs) ∙ sym two.table) one.good two.good

-- from what stands after a fresh build and any sequence of accepted batches
pub any_order_later : {t s z : Table} {old tree other : Arrays} {batches others : List (List Change)} → Stands t old
    → Each (Acceptable t old) batches → NoneCommon batches → Reordered batches others → Arrive t old batches s tree → Arrive t old others z other
    → SameEnd s tree z other
any_order_later h = any_order (stands_good h).whole (stands_accepted h)

-- ---- two batches

both : (t : Table) (old : Arrays) {one two : List Change} → Acceptable t old one → Acceptable t old two → Each (Acceptable t old) (one ∷ two ∷ [])
both t old a b = Each.more a (Each.more b Each.none)

module _ {t s z : Table} {old tree other : Arrays} {one two : List Change} (w : Whole old) (a : Acceptable t old one) (b : Acceptable t old two) (n : NoCommonLink one two) where
  -- the other way round
  pub either_order : Arrive t old (one ∷ two ∷ []) s tree → Arrive t old (two ∷ one ∷ []) z other → SameEnd s tree z other
  either_order = any_order w (batch_tree t old one a) (both t old a b) (NoneCommon.more (Each.more n Each.none) (NoneCommon.more Each.none NoneCommon.none)) Reordered.swap

  -- as one batch
  pub one_batch : length one + length two ≤ most_rows → Arrive t old (one ∷ two ∷ []) s tree → Arrive t old ((one ++ two) ∷ []) z other → SameEnd s tree z other
  unfolding all_applied
  one_batch l x y =
      let apart = arrived (good_from w (batch_tree t old one a)) (both t old a b) x in
      let joint = arrived (good_from w (batch_tree t old one a)) (Each.more (acceptable_as_one t old one two a b n l) Each.none) y in
      same_table (apart.table ∙ ap (with_costs t) (sym (as_one one two t.costs)) ∙ sym joint.table) apart.good joint.good

-- in either order a node's distance is the same
pub distances_same : AlwaysSame (λ tree. (rows_of tree).dist)
distances_same = record { same = λ w a b n x y v. ap (λ (d : List ℕ). get_or d v unreached) (either_order w a b n x y).distances }
