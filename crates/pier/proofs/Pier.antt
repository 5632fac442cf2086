-- P1 to P12, shown of the rules: a test that computes, what it says, and the table that passes it. Assumes nothing.
use mathlib.Core.Path.{◌≡◌, refl}
use mathlib.Core.Logic.{◌⊎◌, inl, inr, ◌≢◌}
use mathlib.Core.Bool.{Bool, true, false, ◌&&◌, ◌||◌, not}
use mathlib.Core.List.{List, [], ◌∷◌, ◌++◌}
use Prim.Native.Nat.{ℕ, ◌≤◌, ◌<◌}
use native.Mathlib.Omega.{arith}
use native.Mathlib.Decide.{dec_lt}
use lib.Dec.{T, eqb, eqb→eq, T_not}
use lib.ListN.{length}
use borrow.Author.Tests.{le-ltb}
use Rattle.rules.specs.Net.{Net, Usable}
use Rattle.rules.specs.Fit.{Rows, Tight, Hung, Row, Fits, Path, at_root, by_parent}
use Rattle.rules.specs.Keep.{Smallest, Choice, keeps, takes, Fresh, Next}
use Rattle.rules.specs.Tests.{all, usable, tight, hung_row, breaks}
use Rattle.rules.specs.Columns.{Table, Proper, Arrays, Whole, net_of, rows_of, most_nodes, after, applied, some_leads}
use Rattle.rules.specs.Refusals.{Values, both, Verdict, accepted, refused, judge_links, judge_tree, judge_batch, judge_update, judge_asked}
use Rattle.rules.specs.Jobs.{changed_below, built, updated, not_updated, pathed}
use Rattle.pier.specs.Pier.{Line, fresh, update, refuse, path, LineHolds, LinesHold, pier_lines}
use Rattle.rules.specs.declared.Change.{Change}
use Rattle.rules.proofs.Logic.{neqb→ne, and_l, and_r, or_cases, all_at, T_false, true_T}
use Rattle.rules.proofs.Check.{usable_of, tight_of, tight_is, hung_is, keeps_rules}
use Rattle.rules.proofs.Judged.{links_proper, beyond, then_first}
use Rattle.rules.proofs.OneOutcome.{after_proper, tree_links}

-- ---- tests

unfoldable is_accepted : Verdict → Bool
is_accepted accepted = true
is_accepted (refused number values) = false

unfoldable is_refused : ℕ → Values → Verdict → Bool
is_refused n x accepted = false
is_refused n x (refused number values) = eqb number n && eqb values.value x.value && eqb values.second x.second

unfoldable same : List ℕ → List ℕ → Bool
same [] [] = true
same [] (y ∷ ys) = false
same (x ∷ xs) [] = false
same (x ∷ xs) (y ∷ ys) = eqb x y && same xs ys

unfoldable whole : Arrays → Bool
whole t = eqb (length t.dist) most_nodes && eqb (length t.parent) most_nodes && eqb (length t.first) most_nodes

module _ (N : Net) (r : Rows) where
  unfoldable smallest : ℕ → Bool
  unfolding tight all
  smallest v = tight N r (r.parent v) v && all (λ j. not (tight N r j v)) (r.parent v)

  -- the old link where it is tight, else the smallest
  unfoldable chosen : ℕ → Bool → ℕ → Bool
  unfolding smallest
  chosen old true v = eqb (r.parent v) old
  chosen old false v = smallest v

  unfoldable fits : Bool
  unfolding breaks all
  fits = all (λ v. not (breaks N r v)) most_nodes

  unfoldable is_next : (ℕ → ℕ) → Bool
  unfolding fits hung_row chosen tight all
  is_next old = fits && all (λ v. not (hung_row N r v) || chosen (old v) (tight N r (old v) v) v) N.nodes

  unfoldable is_fresh : Bool
  unfolding fits hung_row smallest all
  is_fresh = fits && all (λ v. not (hung_row N r v) || smallest v) N.nodes

  -- the links ks, the last first, lead up from v to the root, and each is the parent of its end
  unfoldable goes : ℕ → List ℕ → Bool
  unfolding usable
  goes v [] = eqb v N.root
  goes v (k ∷ ks) = not (eqb v N.root) && eqb k (r.parent v) && usable N k && eqb (N.end k) v && goes (N.start k) ks

unfoldable backward : List ℕ → List ℕ
backward [] = []
backward (k ∷ ks) = backward ks ++ (k ∷ [])

unfoldable pub passes : Line → Bool
unfolding is_accepted is_refused same whole is_next is_fresh goes backward judge_links judge_batch judge_asked applied changed_below some_leads
passes (fresh t tree) = is_accepted (judge_links t) && whole tree && is_fresh (net_of t) (rows_of tree)
passes (update t old batch new changed) =
    is_accepted (judge_batch t old batch) && whole new && is_next (net_of (after t batch)) (rows_of new) (rows_of old).parent
    && same changed (changed_below (rows_of old) (rows_of new) t.nodes)
passes (refuse t old batch number values) = is_refused number values (judge_batch t old batch)
passes (path t tree node links) =
    is_accepted (judge_asked t tree node) && goes (net_of t) (rows_of tree) node (backward links) && same (backward (backward links)) links

-- ---- what passes holds

accepted_of : (v : Verdict) → T (is_accepted v) → v ≡ accepted
unfolding is_accepted
accepted_of accepted q = refl
accepted_of (refused number values) q = absurd q

refused_of : (n : ℕ) (x : Values) (v : Verdict) → T (is_refused n x v) → v ≡ refused n x
unfolding is_refused
refused_of n x accepted q = absurd q
refused_of n x (refused number values) q =
    let same_number = eqb number n in
    let same_value = eqb values.value x.value in
    let same_second = eqb values.second x.second in
    let front = and_l (same_number && same_value) same_second q in
    let a = eqb→eq number n (and_l same_number same_value front) in
    let b = eqb→eq values.value x.value (and_r same_number same_value front) in
    let c = eqb→eq values.second x.second (and_r (same_number && same_value) same_second q) in
    λ i. refused (a i) (both (b i) (c i))

same_of : (xs ys : List ℕ) → T (same xs ys) → xs ≡ ys
unfolding same
same_of [] [] q = refl
same_of [] (y ∷ ys) q = absurd q
same_of (x ∷ xs) [] q = absurd q
same_of (x ∷ xs) (y ∷ ys) q =
    let a = eqb→eq x y (and_l (eqb x y) (same xs ys) q) in
    let b = same_of xs ys (and_r (eqb x y) (same xs ys) q) in
    cc

whole_of : (t : Arrays) → T (whole t) → Whole t
unfolding whole
whole_of t q = search (and_l, and_r, eqb→eq)

module _ (N : Net) (r : Rows) where
  smallest_of : (v : ℕ) → T (smallest N r v) → Smallest N r v (r.parent v)
  unfolding smallest
  smallest_of v q = record { tight = tight_of N r (r.parent v) v (search and_l); smallest = λ j h. at j h (dec_lt j (r.parent v)) }
    where
      none : T (all (λ j. not (tight N r j v)) (r.parent v))
      none = search (and_l, and_r)

      at : (j : ℕ) → Tight N r j v → Dec (j < r.parent v) → r.parent v ≤ j
      at j h (yes l) = absurd (T_not (tight N r j v) (all_at (λ j. not (tight N r j v)) (r.parent v) none j l) (tight_is N r j v h))
      at j h (no l) = omega arith

  chosen_of : (old : ℕ → ℕ) (v : ℕ) (b : Bool) → tight N r (old v) v ≡ b → T (chosen N r (old v) b v) → Choice N r old v
  unfolding chosen
  chosen_of old v true e q = keeps (tight_of N r (old v) v (rw e tt)) (eqb→eq (r.parent v) (old v) q)
  chosen_of old v false e q = takes (λ h. rw e at (tight_is N r (old v) v h)) (smallest_of v q)

  one_more : {k v : ℕ} {ks : List ℕ} → k ≡ r.parent v → v ≢ N.root → Usable N k → N.end k ≡ v → Path N r (N.start k) ks → Path N r v (ks ++ (k ∷ []))
  one_more {ks = ks} e n u s p = rw e (by_parent {ks = ks} n (rw (← e) u) (rw (← e) s) (rw (← e) p))

  goes_of : (v : ℕ) (ks : List ℕ) → T (goes N r v ks) → Path N r v (backward ks)
  unfolding goes backward
  goes_of v [] q = rw (eqb→eq v N.root q) at_root
  goes_of v (k ∷ ks) q =
      one_more (eqb→eq k (r.parent v) (search (and_l, and_r))) (neqb→ne v N.root (search (and_l, and_r))) (usable_of N k (search (and_l, and_r)))
      (eqb→eq (N.end k) v (search (and_l, and_r))) (goes_of (N.start k) ks (search (and_l, and_r)))

  -- of each node that hangs
  of_hung : (p : ℕ → Bool) → T (all (λ v. not (hung_row N r v) || p v) N.nodes) → (v : ℕ) → Hung N r v → T (p v)
  of_hung p q v h = at (or_cases (not (hung_row N r v)) (p v) (all_at (λ v. not (hung_row N r v) || p v) N.nodes q v h.is_node))
    where
      at : T (not (hung_row N r v)) ⊎ T (p v) → T (p v)
      at (inl n) = absurd (T_not (hung_row N r v) n (hung_is N r v h))
      at (inr y) = y

module _ {t : Table} (a : Proper t) (tree : Arrays) (w : Whole tree) where
  fits_of : T (fits (net_of t) (rows_of tree)) → Fits (net_of t) (rows_of tree)
  unfolding fits
  fits_of q = record { row = λ v. at v (dec_lt v most_nodes) }
    where
      at : (v : ℕ) → Dec (v < most_nodes) → Row (net_of t) (rows_of tree) v
      at v (yes l) =
          keeps_rules (net_of t) (rows_of tree) v
          (T_false (breaks (net_of t) (rows_of tree) v) (T_not (breaks (net_of t) (rows_of tree) v) (all_at (λ v. not (breaks (net_of t) (rows_of tree) v)) most_nodes q v l)))
      at v (no l) = beyond a w v (omega arith)

  next_of : (old : ℕ → ℕ) → T (is_next (net_of t) (rows_of tree) old) → Next (net_of t) (rows_of tree) old
  unfolding is_next
  next_of old q = record {
    fits = fits_of (search and_l);
    choice = λ v h. chosen_of (net_of t) (rows_of tree) old v (tight (net_of t) (rows_of tree) (old v) v) refl
        (of_hung (net_of t) (rows_of tree) (λ v. chosen (net_of t) (rows_of tree) (old v) (tight (net_of t) (rows_of tree) (old v) v) v) (search (and_l, and_r)) v h);
  }

  fresh_of : T (is_fresh (net_of t) (rows_of tree)) → Fresh (net_of t) (rows_of tree)
  unfolding is_fresh
  fresh_of q = record {
    fits = fits_of (search and_l);
    takes = λ v h. smallest_of (net_of t) (rows_of tree) v (of_hung (net_of t) (rows_of tree) (smallest (net_of t) (rows_of tree)) (search (and_l, and_r)) v h);
  }

-- an accepted batch with a list that is long enough is accepted, and a refused batch is refused with any list
pub long_enough : (t : Table) (old : Arrays) (batch : List Change) (list : List ℕ) → judge_batch t old batch ≡ accepted → t.nodes ≤ length list → judge_update t old batch list ≡ accepted
unfolding judge_update
long_enough t old batch list e l = rw (e, le-ltb (length list) t.nodes l) refl

still_refused : (t : Table) (old : Arrays) (batch : List Change) (list : List ℕ) {n : ℕ} {x : Values} → judge_batch t old batch ≡ refused n x → judge_update t old batch list ≡ refused n x
unfolding judge_update
still_refused t old batch list e = rw e refl

batch_table : (t : Table) (old : Arrays) (batch : List Change) → judge_batch t old batch ≡ accepted → Proper t
unfolding judge_batch
batch_table t old batch e = tree_links t old (then_first (judge_tree t old) _ e)

pub line_holds : (l : Line) → T (passes l) → LineHolds l
unfolding passes
line_holds (fresh t tree) q =
    let e = accepted_of (judge_links t) (search (and_l, and_r)) in
    let w = whole_of tree (search (and_l, and_r)) in
    built e w (fresh_of (links_proper t e) tree w (search (and_l, and_r)))
line_holds (update t old batch new changed) q = λ list l.
    let e = accepted_of (judge_batch t old batch) (search (and_l, and_r)) in
    let w = whole_of new (search (and_l, and_r)) in
    updated changed (long_enough t old batch list e l) w
    (next_of (after_proper batch (batch_table t old batch e)) new w (rows_of old).parent (search (and_l, and_r)))
    (same_of changed (changed_below (rows_of old) (rows_of new) t.nodes) (search (and_l, and_r)))
line_holds (refuse t old batch number values) q = λ list. not_updated (still_refused t old batch list (refused_of number values (judge_batch t old batch) q))
line_holds (path t tree node links) q = λ list l.
    let way = goes_of (net_of t) (rows_of tree) node (backward links) (search (and_l, and_r)) in
    let turned = same_of (backward (backward links)) links (search (and_l, and_r)) in
    pathed (accepted_of (judge_asked t tree node) (search (and_l, and_r))) (rw turned at way) l

-- ---- the table

unfoldable pub each : List Line → Bool
unfolding passes
each [] = true
each (l ∷ ls) = passes l && each ls

pub each_holds : (ls : List Line) → T (each ls) → LinesHold ls
unfolding each LinesHold
each_holds [] q = tt
each_holds (l ∷ ls) q = (line_holds l (and_l (passes l) (each ls) q), each_holds ls (and_r (passes l) (each ls) q))

pier_passes : each pier_lines ≡ true
unfolding each pier_lines
pier_passes = refl

-- P1 to P12
pub pier_holds : LinesHold pier_lines
pier_holds = each_holds pier_lines (true_T (each pier_lines) pier_passes)
