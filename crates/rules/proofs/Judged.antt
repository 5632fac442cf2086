-- What an accepted call makes sure of. Assumes nothing.
use mathlib.Core.Path.{◌≡◌, refl, sym, ap}
use mathlib.Core.Logic.{◌≢◌}
use mathlib.Core.Bool.{Bool, true, false, ◌||◌, not}
use Prim.Native.Nat.{ℕ, ◌-◌, ◌≤◌, ◌<◌}
use native.Mathlib.Omega.{arith}
use native.Mathlib.Nat.{mul-le-mul_left}
use native.Mathlib.Decide.{dec_lt}
use lib.Dec.{eqb, ltb, leb}
use lib.ListN.{length, get_or, get_or-eq_default}
use borrow.Author.Tests.{lt-ltb, le-ltb, ltb-false, leb-false, eqb-false, eqb-true, not-false}
use Rattle.rules.specs.Net.{Legal, Roomy}
use Rattle.rules.specs.Fit.{Row, bare, Fits}
use Rattle.rules.specs.Tests.{first_below, breaks}
use Rattle.rules.specs.Columns.{Table, Proper, Arrays, Whole, net_of, rows_of, most_nodes, most_links, most_cost, unreached, no_link}
use Rattle.rules.specs.Refusals.{Values, only, both, Verdict, accepted, refused, ◌then◌, when, when_one, wrong_node_count, wrong_root, wrong_columns, wrong_ends, wrong_ends_at, wrong_order_at, judge_links, judge_tree}
use Rattle.rules.specs.Demands.{SixteenBit}
use Rattle.rules.proofs.Logic.{First, first_of, true_false}
use Rattle.rules.proofs.Check.{keeps_rules, breaks_rule}

-- ---- verdicts

pub not_refused : {number : ℕ} {values : Values} → refused number values ≡ accepted → ⊥
not_refused e = let z : ◌≡◌ {A = ℕ} 0 1 = cc in omega arith

pub then_first : (a b : Verdict) → a then b ≡ accepted → a ≡ accepted
then_first accepted b e = refl
then_first (refused number value) b e = e

pub then_second : (a b : Verdict) → a then b ≡ accepted → b ≡ accepted
then_second accepted b e = e
then_second (refused number value) b e = absurd (not_refused e)

pub when_not : (test : Bool) (number : ℕ) → when test number ≡ accepted → test ≡ false
when_not true number e = absurd (not_refused e)
when_not false number e = refl

pub none_of : (n : ℕ) (test : ℕ → Bool) (number : ℕ) → when_one n test number ≡ accepted → (k : ℕ) → k < n → test k ≡ false
none_of n test number e k l = at (first_of test n) (dec_lt (first_below test n) n)
  where
    at : First test n (first_below test n) → Dec (first_below test n < n) → test k ≡ false
    at f (yes s) = absurd (not_refused (rw (lt-ltb (first_below test n) n s) at e))
    at f (no s) = f.before k (omega arith)

pub one_of : (n : ℕ) (test : ℕ → Bool) (number : ℕ) {m x y : ℕ} → when_one n test number ≡ refused m (both x y) → (m ≡ number) × (x < n) × First test n x
one_of n test number {m} {x} {y} e = at (dec_lt (first_below test n) n)
  where
    at : Dec (first_below test n < n) → (m ≡ number) × (x < n) × First test n x
    at (yes l) =
        let found : refused number (only (first_below test n)) ≡ refused m (both x y) = rw (lt-ltb (first_below test n) n l) at e in
        let same : only (first_below test n) ≡ both x y = cc in
        let here : first_below test n ≡ x = ap (λ (v : Values). v.value) same in
        (cc, rw (← here) l, rw (← here) (first_of test n))
    at (no l) = absurd (not_refused (sym (rw (le-ltb (first_below test n) n (omega arith)) at e)))

or_no : (a b : Bool) → (a || b) ≡ false → (a ≡ false) × (b ≡ false)
or_no true b e = absurd (true_false e)
or_no false b e = (refl, e)

-- ---- a table that is accepted

ends_right : (nodes start end : ℕ) → wrong_ends nodes start end ≡ false → (start < nodes) × (end < nodes) × (start ≢ end)
ends_right nodes start end e =
    let outer = or_no (leb nodes start || leb nodes end) (eqb start end) e in
    let inner = or_no (leb nodes start) (leb nodes end) outer.0 in
    (leb-false nodes start inner.0, leb-false nodes end inner.1, eqb-false start end outer.1)

pub links_proper : (t : Table) → judge_links t ≡ accepted → Proper t
unfolding judge_links wrong_ends_at wrong_order_at
links_proper t e1 =
    let e2 = then_second (when (wrong_node_count t) 1) _ e1 in
    let e3 = then_second (when (wrong_root t) 2) _ e2 in
    let e4 = then_second (when (wrong_columns t) 3) _ e3 in
    let count = or_no (eqb t.nodes 0) (ltb most_nodes t.nodes) (when_not (wrong_node_count t) 1 (then_first (when (wrong_node_count t) 1) _ e1)) in
    let root = when_not (wrong_root t) 2 (then_first (when (wrong_root t) 2) _ e2) in
    let columns = or_no _ (ltb most_links (length t.starts)) (when_not (wrong_columns t) 3 (then_first (when (wrong_columns t) 3) _ e3)) in
    let lengths = or_no (not (eqb (length t.starts) (length t.ends))) (not (eqb (length t.starts) (length t.costs))) columns.0 in
    let right = none_of (length t.starts) (wrong_ends_at t) 4 (then_first (when_one (length t.starts) (wrong_ends_at t) 4) _ e4) in
    let rising = none_of (length t.starts) (wrong_order_at t) 5 (then_second (when_one (length t.starts) (wrong_ends_at t) 4) _ e4) in
    record {
      some_node = eqb-false t.nodes 0 count.0;
      few_nodes = ltb-false most_nodes t.nodes count.1;
      root_is_node = leb-false t.nodes t.root root;
      ends_long = eqb-true (length t.starts) (length t.ends) (not-false _ lengths.0);
      costs_long = eqb-true (length t.starts) (length t.costs) (not-false _ lengths.1);
      few_links = ltb-false most_links (length t.starts) columns.1;
      starts = λ k l. (ends_right t.nodes (get_or t.starts k 0) (get_or t.ends k 0) (right k l)).0;
      ends = λ k l. (ends_right t.nodes (get_or t.starts k 0) (get_or t.ends k 0) (right k l)).1;
      apart = λ k l. (ends_right t.nodes (get_or t.starts k 0) (get_or t.ends k 0) (right k l)).2;
      order = λ k l. ltb-false (get_or t.starts k 0) (get_or t.starts (k - 1) 0) (rising k l);
    }

-- ---- what the theory asks of a network

pub legal : {t : Table} → Proper t → Legal (net_of t)
legal a = record {
  root_is_node = a.root_is_node;
  starts = a.starts;
  ends = a.ends;
  no_such_link = omega (arith, a.few_links);
  some_route = omega arith;
  mark_is_far = omega arith;
}

pub roomy : {t : Table} → Proper t → SixteenBit t.costs → Roomy (net_of t)
roomy {t} a c =
    let most = mul-le-mul_left most_cost a.few_nodes in
    record { costs = c.narrow; below_ceiling = omega arith; below_mark = omega arith }

-- ---- a tree that is accepted

-- past the arrays, every row is bare
pub beyond : {t : Table} {tree : Arrays} → Proper t → Whole tree → (v : ℕ) → most_nodes ≤ v → Row (net_of t) (rows_of tree) v
beyond {t} {tree} a w v l = bare (record {
  not_root = λ e. omega (arith, a.root_is_node, a.few_nodes);
  unreached = get_or-eq_default tree.dist unreached (omega (arith, w.dist));
  no_parent = get_or-eq_default tree.parent no_link (omega (arith, w.parent));
  no_first = get_or-eq_default tree.first no_link (omega (arith, w.first));
  no_offer = λ k o. omega (arith, o.ends_at, a.ends k o.usable.is_link, a.few_nodes);
})

pub tree_accepted : (t : Table) (tree : Arrays) → Whole tree → judge_tree t tree ≡ accepted → Proper t × Fits (net_of t) (rows_of tree)
unfolding judge_tree
tree_accepted t tree w e = (fine, record { row = λ v. at v (dec_lt v most_nodes) })
  where
    fine : Proper t
    fine = links_proper t (then_first (judge_links t) (when_one most_nodes (breaks (net_of t) (rows_of tree)) 6) e)

    at : (v : ℕ) → Dec (v < most_nodes) → Row (net_of t) (rows_of tree) v
    at v (yes l) =
        keeps_rules (net_of t) (rows_of tree) v
        (none_of most_nodes (breaks (net_of t) (rows_of tree)) 6 (then_second (judge_links t) (when_one most_nodes (breaks (net_of t) (rows_of tree)) 6) e) v l)
    at v (no l) = beyond fine w v (omega arith)

-- a tree that is refused: the number is 6, and the value is the smallest node that breaks a rule
pub record Unfit (t : Table) (tree : Arrays) (v : ℕ) : Type 0 where
  pub node : v < most_nodes
  pub breaks : Row (net_of t) (rows_of tree) v → ⊥
  pub before : (u : ℕ) → u < v → Row (net_of t) (rows_of tree) u

pub tree_unfit : (t : Table) (tree : Arrays) → judge_links t ≡ accepted → {number value second : ℕ} → judge_tree t tree ≡ refused number (both value second)
    → (number ≡ 6) × Unfit t tree value
unfolding judge_tree
tree_unfit t tree e f =
    let found = one_of most_nodes (breaks (net_of t) (rows_of tree)) 6 (rw e at f) in (
      found.0,
      record {
        node = found.1;
        breaks = breaks_rule (net_of t) (rows_of tree) _ (found.2.passes found.1);
        before = λ u m. keeps_rules (net_of t) (rows_of tree) u (found.2.before u m);
      },
    )
