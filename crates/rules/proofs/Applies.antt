-- Every job gives the smallest number that applies, with its value, and accepts exactly where none applies.
-- Assumes nothing.
use mathlib.Core.Path.{◌≡◌, refl, sym, ap, ◌∙◌}
use mathlib.Core.Logic.{◌⊎◌, inl, inr, ◌≢◌}
use mathlib.Core.Bool.{Bool, true, false, ◌||◌, not}
use mathlib.Core.List.{List}
use Prim.Native.Nat.{ℕ, zero, suc, ◌-◌, ◌≤◌, ◌<◌}
use native.Mathlib.Omega.{arith}
use native.Mathlib.Decide.{dec_lt}
use lib.Dec.{T, eqb, ltb, leb}
use lib.ListN.{length, get_or}
use borrow.Author.Tests.{lt-ltb, le-ltb, le-leb, eq-eqb, ltb-true, leb-true, eqb-true}
use Rattle.rules.specs.Fit.{Row, Path}
use Rattle.rules.specs.Tests.{first_below, breaks, reached}
use Rattle.rules.specs.Columns.{Table, Arrays, net_of, rows_of, most_nodes, most_links, most_rows, unreached}
use Rattle.rules.specs.Refusals.{Values, only, both, earliest, Verdict, accepted, ◌then◌, when, when_one, wrong_node_count, wrong_root, wrong_columns, wrong_ends_at, wrong_order_at, judge_links, judge_tree, link_at, names_no_link, names_again, first_bad_row, judge_rows, judge_batch, judge_update, judge_asked}
use Rattle.rules.specs.Applies.{FirstOf, BadEnds, start_no_node, end_no_node, start_is_end, Falls, OfTable, no_nodes, many_nodes, root_no_node, ends_unequal, costs_unequal, many_links, bad_ends, wrong_order, OfTree, of_table, unfit, BadRow, no_such_link, again, Bad, bad, OfUpdate, many_rows, bad_row, OfPath, no_node, no_route, Gives, none, smallest}
use Rattle.rules.specs.Jobs.{Pathed, pathed, too_short, not_pathed}
use Rattle.rules.specs.declared.Change.{Change}
use Rattle.rules.proofs.Logic.{first_of, or_cases, or_r, T_true, true_T, true_false}
use Rattle.rules.proofs.Check.{keeps_rules, breaks_rule}
use Rattle.rules.proofs.Sound.{path_unique}
use Rattle.rules.proofs.Judged.{not_refused}

-- ---- one number, and several asked in rising order

-- a number that applies where something is so, and carries 0
data Only (number : ℕ) (So : Type 0) : ℕ → Values → Type 0 where
  just : So → Only number So number (only 0)

-- a number that applies where something is so of one of n places, and carries the first
data OnlyFirst (number n : ℕ) (So : ℕ → Type 0) : ℕ → Values → Type 0 where
  first : {place : ℕ} → FirstOf n So place → OnlyFirst number n So number (only place)

data Either (A B : ℕ → Values → Type 0) (number : ℕ) (value : Values) : Type 0 where
  here : A number value → Either A B number value
  there : B number value → Either A B number value

-- a test says whether something is so
record Decides (test : Bool) (So : Type 0) : Type 0 where
  yes_so : test ≡ true → So
  so_yes : So → test ≡ true

gives_when : (test : Bool) (number : ℕ) {So : Type 0} → Decides test So → Gives (Only number So) (when test number)
gives_when true number {So} d = smallest (just (d.yes_so refl)) bound carries
  where
    bound : (m : ℕ) (x : Values) → Only number So m x → number ≤ m
    bound m x (just s) = omega arith

    carried : {m : ℕ} {x : Values} → Only number So m x → x ≡ only 0
    carried (just s) = refl

    carries : (x : Values) → Only number So number x → x ≡ only 0
    carries x o = carried o
gives_when false number {So} d = none at
  where
    at : (m : ℕ) (x : Values) → Only number So m x → ⊥
    at m x (just s) = true_false (sym (d.so_yes s))

-- what is first by a test is the first of which something is so
module _ (n : ℕ) (test : ℕ → Bool) {So : ℕ → Type 0} (d : (i : ℕ) → Decides (test i) (So i)) where
  found : first_below test n < n → FirstOf n So (first_below test n)
  found l =
      let f = first_of test n in
      record {
        is_place = l;
        is_so = (d (first_below test n)).yes_so (f.passes l);
        none_before = λ i m s. true_false (sym ((d i).so_yes s) ∙ f.before i m);
      }

  nothing : n ≤ first_below test n → {i : ℕ} → FirstOf n So i → ⊥
  nothing l {i} s = true_false (sym ((d i).so_yes s.is_so) ∙ (first_of test n).before i (omega (arith, s.is_place)))

one_first : {n : ℕ} {So : ℕ → Type 0} {i j : ℕ} → FirstOf n So i → FirstOf n So j → i ≡ j
one_first {i = i} {j} a b = at (dec_lt i j) (dec_lt j i)
  where
    at : Dec (i < j) → Dec (j < i) → i ≡ j
    at (yes l) e = absurd (b.none_before i l a.is_so)
    at (no l) (yes e) = absurd (a.none_before j e b.is_so)
    at (no l) (no e) = omega arith

gives_first : (n : ℕ) (test : ℕ → Bool) (number : ℕ) {So : ℕ → Type 0} → ((i : ℕ) → Decides (test i) (So i))
    → Gives (OnlyFirst number n So) (when_one n test number)
gives_first n test number {So} d = at (dec_lt (first_below test n) n)
  where
    bound : (m : ℕ) (x : Values) → OnlyFirst number n So m x → number ≤ m
    bound m x (first s) = omega arith

    empty : n ≤ first_below test n → (m : ℕ) (x : Values) → OnlyFirst number n So m x → ⊥
    empty l m x (first s) = nothing n test d l s

    carried : {y m : ℕ} {x : Values} → FirstOf n So y → OnlyFirst number n So m x → x ≡ only y
    carried f (first s) = ap only (one_first s f)

    at : Dec (first_below test n < n) → Gives (OnlyFirst number n So) (when_one n test number)
    at (yes l) = let f = found n test d l in rw (lt-ltb (first_below test n) n l) (smallest (first f) bound (λ x o. carried f o))
    at (no l) = rw (le-ltb (first_below test n) n (omega arith)) (none (empty (omega arith)))

-- ---- numbers asked in rising order

-- a verdict and the numbers that it can have
record Says (from to : ℕ) (A : ℕ → Values → Type 0) (v : Verdict) : Type 0 where
  gives : Gives A v
  least : (m : ℕ) (x : Values) → A m x → from ≤ m
  most : (m : ℕ) (x : Values) → A m x → m ≤ to

says_when : (number : ℕ) (test : Bool) {So : Type 0} → Decides test So → Says number number (Only number So) (when test number)
says_when number test {So} d = record { gives = gives_when test number d; least = low; most = high }
  where
    low : (m : ℕ) (x : Values) → Only number So m x → number ≤ m
    low m x (just s) = omega arith

    high : (m : ℕ) (x : Values) → Only number So m x → m ≤ number
    high m x (just s) = omega arith

says_first : (number n : ℕ) (test : ℕ → Bool) {So : ℕ → Type 0} → ((i : ℕ) → Decides (test i) (So i))
    → Says number number (OnlyFirst number n So) (when_one n test number)
says_first number n test {So} d = record { gives = gives_first n test number d; least = low; most = high }
  where
    low : (m : ℕ) (x : Values) → OnlyFirst number n So m x → number ≤ m
    low m x (first s) = omega arith

    high : (m : ℕ) (x : Values) → OnlyFirst number n So m x → m ≤ number
    high m x (first s) = omega arith

-- the second's numbers are above the first's
module _ {mid next : ℕ} (apart : mid < next) {A B : ℕ → Values → Type 0} (upto : (m : ℕ) (x : Values) → A m x → m ≤ mid) (above : (m : ℕ) (x : Values) → B m x → next ≤ m) where
  -- a refusal stands, whatever is asked behind it
  gives_early : {v : Verdict} → Gives A v → (v ≡ accepted → ⊥) → Gives (Either A B) v
  gives_early (none a) n = absurd (n refl)
  gives_early (smallest {number} {values} a least one) n = smallest (here a) bound carries
    where
      bound : (m : ℕ) (x : Values) → Either A B m x → number ≤ m
      bound m x (here s) = least m x s
      bound m x (there s) = omega (arith, upto number values a, above m x s)

      carries : (x : Values) → Either A B number x → x ≡ values
      carries x (here s) = one x s
      carries x (there s) = absurd (omega (arith, upto number values a, above number x s))

  gives_then : {v w : Verdict} → Gives A v → Gives B w → Gives (Either A B) (v then w)
  gives_then (none a) (none b) = none at
    where
      at : (m : ℕ) (x : Values) → Either A B m x → ⊥
      at m x (here s) = a m x s
      at m x (there s) = b m x s
  gives_then (none a) (smallest {number} {values} b least one) = smallest (there b) bound carries
    where
      bound : (m : ℕ) (x : Values) → Either A B m x → number ≤ m
      bound m x (here s) = absurd (a m x s)
      bound m x (there s) = least m x s

      carries : (x : Values) → Either A B number x → x ≡ values
      carries x (here s) = absurd (a number x s)
      carries x (there s) = one x s
  gives_then (smallest a least one) g = gives_early (smallest a least one) not_refused

record Rising (from mid next to : ℕ) : Type 0 where
  first_part : from ≤ mid
  apart : mid < next
  second_part : next ≤ to

says_then : {from mid next to : ℕ} → Rising from mid next to → {A B : ℕ → Values → Type 0} {v w : Verdict} → Says from mid A v → Says next to B w
    → Says from to (Either A B) (v then w)
says_then {from} {to = to} r {A} {B} p q = record { gives = gives_then r.apart p.most q.least p.gives q.gives; least = low; most = high }
  where
    low : (m : ℕ) (x : Values) → Either A B m x → from ≤ m
    low m x (here s) = p.least m x s
    low m x (there s) = omega (arith, q.least m x s)

    high : (m : ℕ) (x : Values) → Either A B m x → m ≤ to
    high m x (here s) = omega (arith, p.most m x s)
    high m x (there s) = q.most m x s

-- the same numbers and values, said in another way
gives_same : {A B : ℕ → Values → Type 0} {v : Verdict} → ((m : ℕ) (x : Values) → A m x → B m x) → ((m : ℕ) (x : Values) → B m x → A m x) → Gives A v → Gives B v
gives_same to from (none a) = none (λ m x b. a m x (from m x b))
gives_same to from (smallest a least one) = smallest (to _ _ a) (λ m x b. least m x (from m x b)) (λ x b. one x (from _ x b))

says_same : {i j : ℕ} {A B : ℕ → Values → Type 0} {v : Verdict} → ((m : ℕ) (x : Values) → A m x → B m x) → ((m : ℕ) (x : Values) → B m x → A m x) → Says i j A v → Says i j B v
says_same to from p =
    record { gives = gives_same to from p.gives; least = λ m x b. p.least m x (from m x b); most = λ m x b. p.most m x (from m x b) }

-- ---- tests

decides_lt : (m n : ℕ) → Decides (ltb m n) (m < n)
decides_lt m n = record { yes_so = ltb-true m n; so_yes = lt-ltb m n }

decides_le : (m n : ℕ) → Decides (leb m n) (m ≤ n)
decides_le m n = record { yes_so = leb-true m n; so_yes = le-leb m n }

decides_eq : (m n : ℕ) → Decides (eqb m n) (m ≡ n)
decides_eq m n = record { yes_so = eqb-true m n; so_yes = eq-eqb m n }

decides_not : (b : Bool) {So : Type 0} → Decides b So → Decides (not b) (So → ⊥)
decides_not true d = record { yes_so = λ e s. true_false (sym e); so_yes = λ n. absurd (n (d.yes_so refl)) }
decides_not false d = record { yes_so = λ e s. true_false (sym (d.so_yes s)); so_yes = λ n. refl }

decides_or : (a b : Bool) {A B : Type 0} → Decides a A → Decides b B → Decides (a || b) (A ⊎ B)
decides_or a b {A} {B} d e = record { yes_so = λ q. at (or_cases a b (true_T (a || b) q)); so_yes = back }
  where
    at : T a ⊎ T b → A ⊎ B
    at (inl t) = inl (d.yes_so (T_true a t))
    at (inr t) = inr (e.yes_so (T_true b t))

    back : A ⊎ B → (a || b) ≡ true
    back (inl s) = rw (d.so_yes s) refl
    back (inr s) = T_true (a || b) (or_r a b (true_T b (e.so_yes s)))

-- ---- a table: 1 to 5

wrong_ends_decides : (t : Table) (k : ℕ) → Decides (wrong_ends_at t k) (BadEnds t k)
unfolding wrong_ends_at
wrong_ends_decides t k =
    let start = get_or t.starts k 0 in
    let end = get_or t.ends k 0 in
    let by = decides_or _ _ (decides_or _ _ (decides_le t.nodes start) (decides_le t.nodes end)) (decides_eq start end) in
    record { yes_so = λ e. at (by.yes_so e); so_yes = λ w. by.so_yes (back w) }
  where
    Ways : Type 0
    Ways = ((t.nodes ≤ get_or t.starts k 0) ⊎ (t.nodes ≤ get_or t.ends k 0)) ⊎ (get_or t.starts k 0 ≡ get_or t.ends k 0)

    at : Ways → BadEnds t k
    at (inl (inl l)) = start_no_node l
    at (inl (inr l)) = end_no_node l
    at (inr e) = start_is_end e

    back : BadEnds t k → Ways
    back (start_no_node l) = inl (inl l)
    back (end_no_node l) = inl (inr l)
    back (start_is_end e) = inr e

falls_decides : (t : Table) (k : ℕ) → Decides (wrong_order_at t k) (Falls t k)
unfolding wrong_order_at
falls_decides t k = record { yes_so = λ e. at k (ltb-true (get_or t.starts k 0) (get_or t.starts (k - 1) 0) e); so_yes = λ f. lt-ltb (get_or t.starts k 0) (get_or t.starts (k - 1) 0) f.below }
  where
    at : (k : ℕ) → get_or t.starts k 0 < get_or t.starts (k - 1) 0 → Falls t k
    at zero l = absurd (omega arith)
    at (suc k) l = record { has_before = omega arith; below = l }

module _ (t : Table) where
  abbrev Counts : Type 0
  Counts = (t.nodes ≡ 0) ⊎ (most_nodes < t.nodes)

  abbrev Columns : Type 0
  Columns = ((length t.starts ≢ length t.ends) ⊎ (length t.starts ≢ length t.costs)) ⊎ (most_links < length t.starts)

  abbrev Asked : ℕ → Values → Type 0
  Asked = Either (Only 1 Counts) (Either (Only 2 (t.nodes ≤ t.root)) (Either (Only 3 Columns)
      (Either (OnlyFirst 4 (length t.starts) (BadEnds t)) (OnlyFirst 5 (length t.starts) (Falls t)))))

  to_table : (m : ℕ) (x : Values) → Asked m x → OfTable t m x
  to_table m x (here (just (inl e))) = no_nodes e
  to_table m x (here (just (inr l))) = many_nodes l
  to_table m x (there (here (just l))) = root_no_node l
  to_table m x (there (there (here (just (inl (inl n)))))) = ends_unequal n
  to_table m x (there (there (here (just (inl (inr n)))))) = costs_unequal n
  to_table m x (there (there (here (just (inr l))))) = many_links l
  to_table m x (there (there (there (here (first f))))) = bad_ends f
  to_table m x (there (there (there (there (first f))))) = wrong_order f

  from_table : (m : ℕ) (x : Values) → OfTable t m x → Asked m x
  from_table m x (no_nodes e) = here (just (inl e))
  from_table m x (many_nodes l) = here (just (inr l))
  from_table m x (root_no_node l) = there (here (just l))
  from_table m x (ends_unequal n) = there (there (here (just (inl (inl n)))))
  from_table m x (costs_unequal n) = there (there (here (just (inl (inr n)))))
  from_table m x (many_links l) = there (there (here (just (inr l))))
  from_table m x (bad_ends f) = there (there (there (here (first f))))
  from_table m x (wrong_order f) = there (there (there (there (first f))))

  table_says : Says 1 5 (OfTable t) (judge_links t)
  unfolding judge_links
  table_says =
      let n = length t.starts in
      let one = says_when 1 (wrong_node_count t) (decides_or _ _ (decides_eq t.nodes 0) (decides_lt most_nodes t.nodes)) in
      let two = says_when 2 (wrong_root t) (decides_le t.nodes t.root) in
      let unequal = decides_or _ _ (decides_not _ (decides_eq n (length t.ends))) (decides_not _ (decides_eq n (length t.costs))) in
      let three = says_when 3 (wrong_columns t) (decides_or _ _ unequal (decides_lt most_links n)) in
      let four = says_first 4 n (wrong_ends_at t) (wrong_ends_decides t) in
      let five = says_first 5 n (wrong_order_at t) (falls_decides t) in
      says_same to_table from_table
      (says_then (omega arith) one (says_then (omega arith) two (says_then (omega arith) three (says_then (omega arith) four five))))

  pub table_gives : Gives (OfTable t) (judge_links t)
  table_gives = table_says.gives

-- ---- a tree: 1 to 6

module _ (t : Table) (tree : Arrays) where
  breaks_decides : (v : ℕ) → Decides (breaks (net_of t) (rows_of tree) v) (Row (net_of t) (rows_of tree) v → ⊥)
  breaks_decides v = record { yes_so = breaks_rule (net_of t) (rows_of tree) v; so_yes = λ n. at n (breaks (net_of t) (rows_of tree) v) refl }
    where
      at : (Row (net_of t) (rows_of tree) v → ⊥) → (b : Bool) → breaks (net_of t) (rows_of tree) v ≡ b → b ≡ true
      at n true e = refl
      at n false e = absurd (n (keeps_rules (net_of t) (rows_of tree) v e))

  abbrev Unfit : ℕ → Values → Type 0
  Unfit = OnlyFirst 6 most_nodes (λ v. Row (net_of t) (rows_of tree) v → ⊥)

  to_tree : (m : ℕ) (x : Values) → Either (OfTable t) Unfit m x → OfTree t tree m x
  to_tree m x (here s) = of_table s
  to_tree m x (there (first f)) = unfit f

  from_tree : (m : ℕ) (x : Values) → OfTree t tree m x → Either (OfTable t) Unfit m x
  from_tree m x (of_table s) = here s
  from_tree m x (unfit f) = there (first f)

  tree_says : Says 1 6 (OfTree t tree) (judge_tree t tree)
  unfolding judge_tree
  tree_says =
      let six = says_first 6 most_nodes (breaks (net_of t) (rows_of tree)) breaks_decides in
      says_same to_tree from_tree (says_then (omega arith) (table_says t) six)

  pub tree_gives : Gives (OfTree t tree) (judge_tree t tree)
  tree_gives = tree_says.gives

-- ---- an update: 1 to 9 and 12

module _ (t : Table) (batch : List Change) where
  no_link_decides : (row : ℕ) → Decides (names_no_link t batch row) (BadRow t batch row 8 0)
  unfolding names_no_link
  no_link_decides row = record { yes_so = λ e. no_such_link (leb-true (length t.starts) (link_at batch row) e); so_yes = λ b. le-leb (length t.starts) (link_at batch row) (at b refl) }
    where
      at : {m s : ℕ} → BadRow t batch row m s → m ≡ 8 → length t.starts ≤ link_at batch row
      at (no_such_link l) e = l
      at (again f) e = absurd (omega arith)

  abbrev Same : ℕ → ℕ → Type 0
  Same row i = link_at batch i ≡ link_at batch row

  same_decides : (row i : ℕ) → Decides (eqb (link_at batch i) (link_at batch row)) (Same row i)
  same_decides row i = decides_eq (link_at batch i) (link_at batch row)

  abbrev same : ℕ → ℕ → Bool
  same row i = eqb (link_at batch i) (link_at batch row)

  names_again_lem : {row earlier : ℕ} → FirstOf row (Same row) earlier → names_again batch row ≡ true
  unfolding names_again
  names_again_lem {row} f = at (dec_lt (earliest batch row) row)
    where
      at : Dec (earliest batch row < row) → ltb (earliest batch row) row ≡ true
      at (yes l) = lt-ltb (earliest batch row) row l
      at (no l) = absurd (nothing row (same row) (same_decides row) (omega arith) f)

  first_same : {row : ℕ} → names_again batch row ≡ true → FirstOf row (Same row) (earliest batch row)
  unfolding names_again
  first_same {row} e = found row (same row) (same_decides row) (ltb-true (earliest batch row) row e)

  again_decides : (row : ℕ) → Decides (names_again batch row) (BadRow t batch row 9 (earliest batch row))
  again_decides row = record { yes_so = λ e. again (first_same e); so_yes = λ b. at b refl }
    where
      at : {m s : ℕ} → BadRow t batch row m s → m ≡ 9 → names_again batch row ≡ true
      at (no_such_link l) e = absurd (omega arith)
      at (again f) e = names_again_lem f

  bad_decides : (row : ℕ) → Decides (names_no_link t batch row || names_again batch row) (Bad t batch row)
  bad_decides row = record { yes_so = λ e. at (by.yes_so e); so_yes = back }
    where
      by : Decides (names_no_link t batch row || names_again batch row) (BadRow t batch row 8 0 ⊎ BadRow t batch row 9 (earliest batch row))
      by = decides_or _ _ (no_link_decides row) (again_decides row)

      at : BadRow t batch row 8 0 ⊎ BadRow t batch row 9 (earliest batch row) → Bad t batch row
      at (inl b) = bad b
      at (inr b) = bad b

      back : Bad t batch row → (names_no_link t batch row || names_again batch row) ≡ true
      back (bad (no_such_link l)) = by.so_yes (inl (no_such_link l))
      back (bad (again f)) = by.so_yes (inr (again (first_same (names_again_lem f))))

  -- 8 and 9, by the first bad row
  data OfRows : ℕ → Values → Type 0 where
    at_row : {number row second : ℕ} → BadRow t batch row number second → FirstOf (length batch) (Bad t batch) row → OfRows number (both row second)

  rows_gives : Gives OfRows (judge_rows t batch)
  unfolding judge_rows first_bad_row
  rows_gives = at (dec_lt (first_bad_row t batch) (length batch)) (names_no_link t batch (first_bad_row t batch)) refl
    where
      test : ℕ → Bool
      test row = names_no_link t batch row || names_again batch row

      empty : length batch ≤ first_bad_row t batch → (m : ℕ) (x : Values) → OfRows m x → ⊥
      empty l m x (at_row b f) = nothing (length batch) test bad_decides l f

      carried_8 : {y m : ℕ} {x : Values} → FirstOf (length batch) (Bad t batch) y → OfRows m x → m ≡ 8 → x ≡ only y
      carried_8 f (at_row (no_such_link l) s) e = ap only (one_first s f)
      carried_8 f (at_row (again g) s) e = absurd (omega arith)

      carried_9 : {y m : ℕ} {x : Values} → FirstOf (length batch) (Bad t batch) y → OfRows m x → m ≡ 9 → x ≡ both y (earliest batch y)
      carried_9 f (at_row (no_such_link l) s) e = absurd (omega arith)
      carried_9 f (at_row {row = row} (again g) s) e =
          ap (both row) (one_first g (first_same (names_again_lem g))) ∙ ap (λ z. both z (earliest batch z)) (one_first s f)

      eight : {m : ℕ} {x : Values} → OfRows m x → 8 ≤ m
      eight (at_row (no_such_link l) f) = omega arith
      eight (at_row (again g) f) = omega arith

      -- the first bad row names a link
      nine : {y m : ℕ} {x : Values} → FirstOf (length batch) (Bad t batch) y → names_no_link t batch y ≡ false → OfRows m x → 9 ≤ m
      nine f e (at_row (no_such_link l) s) = absurd (true_false (sym ((no_link_decides _).so_yes (no_such_link l)) ∙ rw (one_first s f) e))
      nine f e (at_row (again g) s) = omega arith

      at : Dec (first_bad_row t batch < length batch) → (b : Bool) → names_no_link t batch (first_bad_row t batch) ≡ b → Gives OfRows (judge_rows t batch)
      at (yes l) true e =
          let f = found (length batch) test bad_decides l in
          rw (lt-ltb (first_bad_row t batch) (length batch) l, e) (smallest (at_row ((no_link_decides (first_bad_row t batch)).yes_so e) f) (λ m x o. eight o) (λ x o. carried_8 f o refl))
      at (yes l) false e =
          let f = found (length batch) test bad_decides l in
          rw (lt-ltb (first_bad_row t batch) (length batch) l, e) (smallest (at_row ((again_decides (first_bad_row t batch)).yes_so (rw e at ((bad_decides (first_bad_row t batch)).so_yes f.is_so))) f) (λ m x o. nine f e o) (λ x o. carried_9 f o refl))
      at (no l) b e = rw (le-ltb (first_bad_row t batch) (length batch) (omega arith)) (none (empty (omega arith)))

rows_says : (t : Table) (batch : List Change) → Says 8 9 (OfRows t batch) (judge_rows t batch)
rows_says t batch = record { gives = rows_gives t batch; least = low; most = high }
  where
    low : (m : ℕ) (x : Values) → OfRows t batch m x → 8 ≤ m
    low m x (at_row (no_such_link s) f) = omega arith
    low m x (at_row (again g) f) = omega arith

    high : (m : ℕ) (x : Values) → OfRows t batch m x → m ≤ 9
    high m x (at_row (no_such_link s) f) = omega arith
    high m x (at_row (again g) f) = omega arith

module _ (t : Table) (tree : Arrays) (batch : List Change) (list : List ℕ) where
  abbrev Batches : ℕ → Values → Type 0
  Batches = Either (OfTree t tree) (Either (Only 7 (most_rows < length batch)) (OfRows t batch))

  abbrev Updates : ℕ → Values → Type 0
  Updates = Either Batches (Only 12 (length list < t.nodes))

  to_update : (m : ℕ) (x : Values) → Updates m x → OfUpdate t tree batch list m x
  to_update m x (here (here s)) = OfUpdate.of_tree s
  to_update m x (here (there (here (just l)))) = many_rows l
  to_update m x (here (there (there (at_row b f)))) = bad_row b f
  to_update m x (there (just l)) = OfUpdate.list_short l

  from_update : (m : ℕ) (x : Values) → OfUpdate t tree batch list m x → Updates m x
  from_update m x (OfUpdate.of_tree s) = here (here s)
  from_update m x (many_rows l) = here (there (here (just l)))
  from_update m x (bad_row b f) = here (there (there (at_row b f)))
  from_update m x (OfUpdate.list_short l) = there (just l)

  pub update_gives : Gives (OfUpdate t tree batch list) (judge_update t tree batch list)
  unfolding judge_update judge_batch
  update_gives =
      let seven = says_when 7 (ltb most_rows (length batch)) (decides_lt most_rows (length batch)) in
      let twelve = says_when 12 (ltb (length list) t.nodes) (decides_lt (length list) t.nodes) in
      let rows = says_then (omega arith) (tree_says t tree) (says_then (omega arith) seven (rows_says t batch)) in
      gives_same to_update from_update (says_then (omega arith) rows twelve).gives

-- ---- a path: 1 to 6 and 10 to 12

module _ (t : Table) (tree : Arrays) (node : ℕ) where
  abbrev Askeds : ℕ → Values → Type 0
  Askeds = Either (OfTree t tree) (Either (Only 10 (t.nodes ≤ node)) (Only 11 ((rows_of tree).dist node ≡ unreached)))

  unreached_decides : Decides (not (reached (net_of t) (rows_of tree) node)) ((rows_of tree).dist node ≡ unreached)
  unfolding reached
  unreached_decides = at (eqb ((rows_of tree).dist node) unreached) (decides_eq ((rows_of tree).dist node) unreached)
    where
      at : (b : Bool) {So : Type 0} → Decides b So → Decides (not (not b)) So
      at true d = d
      at false d = d

  asked_says : Says 1 11 Askeds (judge_asked t tree node)
  unfolding judge_asked
  asked_says =
      let ten = says_when 10 (leb t.nodes node) (decides_le t.nodes node) in
      let eleven = says_when 11 (not (reached (net_of t) (rows_of tree) node)) unreached_decides in
      says_then (omega arith) (tree_says t tree) (says_then (omega arith) ten eleven)

module _ (t : Table) (tree : Arrays) (node : ℕ) (list : List ℕ) where
  -- the path has more links than the list has places
  record Longer : Type 0 where
    links : List ℕ
    path : Path (net_of t) (rows_of tree) node links
    longer : length list < length links

  to_path : (m : ℕ) (x : Values) → Either (Askeds t tree node) (Only 12 Longer) m x → OfPath t tree node list m x
  to_path m x (here (here s)) = OfPath.of_tree s
  to_path m x (here (there (here (just l)))) = no_node l
  to_path m x (here (there (there (just e)))) = no_route e
  to_path m x (there (just p)) = OfPath.list_short p.path p.longer

  from_path : (m : ℕ) (x : Values) → OfPath t tree node list m x → Either (Askeds t tree node) (Only 12 Longer) m x
  from_path m x (OfPath.of_tree s) = here (here s)
  from_path m x (no_node l) = here (there (here (just l)))
  from_path m x (no_route e) = here (there (there (just e)))
  from_path m x (OfPath.list_short {links} p l) = there (just (record { links = links; path = p; longer = l }))

  -- 12 is judged where the path is known
  with_path : (short : Bool) → Decides short Longer → judge_asked t tree node ≡ accepted → Gives (OfPath t tree node list) (when short 12)
  with_path short d e = gives_same to_path from_path (says_then (omega arith) (rw e at (asked_says t tree node)) (says_when 12 short d)).gives

  pub path_gives : {v : Verdict} {listed : List ℕ} {count : ℕ} → Pathed t tree node list v listed count → Gives (OfPath t tree node list) v
  path_gives (pathed e p l) =
      with_path false (record { yes_so = λ q. absurd (true_false (sym q)); so_yes = λ s. absurd (omega (arith, ap length (path_unique p refl s.path), s.longer)) }) e
  path_gives (too_short e p l) = with_path true (record { yes_so = λ q. record { links = _; path = p; longer = l }; so_yes = λ s. refl }) e
  path_gives (not_pathed e) =
      let asked = asked_says t tree node in
      gives_same to_path from_path (gives_early {mid = 11} {next = 12} (omega arith) asked.most twelve (rw e at asked.gives) not_refused)
    where
      twelve : (m : ℕ) (x : Values) → Only 12 Longer m x → 12 ≤ m
      twelve m x (just s) = omega arith
