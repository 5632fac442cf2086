-- A batch that is acceptable stays so when another has been applied, and two without a common link are acceptable as
-- one, if that has at most 256 rows. Assumes nothing.
use mathlib.Core.Path.{◌≡◌, refl, sym, subst, ap, ◌∙◌}
use mathlib.Core.Logic.{◌≢◌}
use mathlib.Core.Bool.{Bool, true, false, ◌||◌}
use mathlib.Core.List.{List, ◌++◌}
use Prim.Native.Nat.{ℕ, ◌+◌, ◌-◌, ◌≤◌, ◌<◌}
use native.Mathlib.Omega.{arith}
use native.Mathlib.Decide.{dec_lt}
use lib.Dec.{eqb, ltb, leb}
use lib.ListN.{length, length-append, get_or-append}
use lib.Seq.{get_or-append-add}
use borrow.Author.Tests.{lt-ltb, le-ltb, ltb-false, leb-false, lt-leb, eq-eqb, ne_eqb}
use Rattle.rules.specs.Tests.{first_below}
use Rattle.rules.specs.Columns.{Table, Arrays, after, no_link, most_rows, with_costs}
use Rattle.rules.specs.Refusals.{only, Verdict, accepted, refused, ◌then◌, when, link_at, names_no_link, names_again, first_bad_row, judge_links, judge_tree, judge_rows, judge_batch, judge_update}
use Rattle.rules.specs.Jobs.{Updated, updated, not_updated}
use Rattle.rules.specs.declared.Change.{Change}
use Rattle.rules.proofs.Logic.{First, first_of, first_is, or_l, or_r, or-false, T_false, false_T, true_false}
use Rattle.rules.proofs.Judged.{then_first, then_second, when_not, not_refused}
use Rattle.rules.proofs.Accepted.{Accept, update_accept, update_good}
use Rattle.demands.proofs.Judged.{fits_accepted, after_accepted, tree_table}
use Rattle.pier.proofs.Pier.{long_enough}
use Rattle.swapped.specs.Swapped.{Acceptable, NoCommonLink}

-- ---- after another batch

-- what judging a batch asks besides its tree, and that no cost counts in it
still_rows : (t : Table) (old new : Arrays) (batch : List Change) (costs : List ℕ) → Acceptable t old batch → judge_tree (with_costs t costs) new ≡ accepted
    → Acceptable (with_costs t costs) new batch
unfolding judge_batch judge_rows first_bad_row names_no_link
still_rows t old new batch costs a e =
    ap (λ (v : Verdict). v then (when (ltb most_rows (length batch)) 7 then judge_rows t batch)) e ∙ then_second (judge_tree t old) _ a

pub batch_tree : (t : Table) (old : Arrays) (batch : List Change) → Acceptable t old batch → judge_tree t old ≡ accepted
unfolding judge_batch
batch_tree t old batch a = then_first (judge_tree t old) _ a

accepts : {t : Table} {old new : Arrays} {batch : List Change} {list costs listed : List ℕ} {v : Verdict} {count : ℕ}
    → Updated t old batch list v new costs listed count → judge_update t old batch list ≡ accepted → v ≡ accepted
accepts (updated changed e w n q) a = refl
accepts (not_updated e) a = absurd (not_refused (sym e ∙ a))

module _ {t : Table} {old new : Arrays} {batch : List Change} {list costs listed : List ℕ} {v : Verdict} {count : ℕ}
    (a : Acceptable t old batch) (long : t.nodes ≤ length list) (u : Updated t old batch list v new costs listed count) where
  -- what is acceptable is accepted
  pub is_accepted : v ≡ accepted
  is_accepted = accepts u (long_enough t old batch list a long)

  pub taken : Accept t old batch list new costs listed count
  taken = update_accept u is_accepted

  -- what was acceptable before it is so after it
  pub still_acceptable : (other : List Change) → Acceptable t old other → Acceptable (with_costs t costs) new other
  still_acceptable other b =
      let fine = after_accepted t batch (tree_table t old (batch_tree t old batch a)) in
      let fits = fits_accepted (after t batch) new fine (update_good taken).fits in
      still_rows t old new other costs b (subst (λ (c : List ℕ). judge_tree (with_costs t c) new ≡ accepted) (sym taken.costs) fits)

-- ---- as one batch

-- each row names a link of the table, and none that an earlier row names
record GoodRows (links : ℕ) (batch : List Change) : Type 0 where
  named : (row : ℕ) → row < length batch → link_at batch row < links
  once : (earlier row : ℕ) → earlier < row → row < length batch → link_at batch earlier ≢ link_at batch row

module _ (t : Table) (batch : List Change) where
  bad : ℕ → Bool
  bad row = names_no_link t batch row || names_again batch row

  none_bad : judge_rows t batch ≡ accepted → (row : ℕ) → row < length batch → bad row ≡ false
  unfolding judge_rows first_bad_row bad
  none_bad e row l = at (dec_lt (first_below bad (length batch)) (length batch))
    where
      at : Dec (first_below bad (length batch) < length batch) → bad row ≡ false
      at (yes m) = absurd (not_refused (rw (lt-ltb (first_below bad (length batch)) (length batch) m) at e))
      at (no m) = (first_of bad (length batch)).before row (omega arith)

  good_rows : judge_rows t batch ≡ accepted → GoodRows (length t.starts) batch
  unfolding bad names_no_link names_again
  good_rows e = record {
    named = λ row l. leb-false (length t.starts) (link_at batch row) (T_false _ (λ b. false_T (bad row) (none_bad e row l) (or_l (names_no_link t batch row) (names_again batch row) b)));
    once = λ earlier row l m. again earlier row l (T_false (names_again batch row) (λ b. false_T (bad row) (none_bad e row m) (or_r (names_no_link t batch row) (names_again batch row) b)));
  }
    where
      again : (earlier row : ℕ) → earlier < row → names_again batch row ≡ false → link_at batch earlier ≢ link_at batch row
      again earlier row l e q = true_false (sym (eq-eqb _ _ q) ∙ (first_of (λ i. eqb (link_at batch i) (link_at batch row)) row).before earlier
          (omega (arith, l, ltb-false (first_below (λ i. eqb (link_at batch i) (link_at batch row)) row) row e)))

  not_again : (row : ℕ) → ((i : ℕ) → i < row → link_at batch i ≢ link_at batch row) → names_again batch row ≡ false
  unfolding names_again
  not_again row n = rw (first_is {p = λ i. eqb (link_at batch i) (link_at batch row)} {n = row} {f = row} (record {
    within = omega arith;
    before = λ i l. ne_eqb (link_at batch i) (link_at batch row) (n i l);
    passes = λ l. absurd (omega arith);
  })) (le-ltb row row (omega arith))

  names_one : (row : ℕ) → link_at batch row < length t.starts → names_no_link t batch row ≡ false
  unfolding names_no_link
  names_one row l = lt-leb (length t.starts) (link_at batch row) l

  rows_good : GoodRows (length t.starts) batch → judge_rows t batch ≡ accepted
  unfolding judge_rows first_bad_row bad
  rows_good g = rw (first_is all, le-ltb (length batch) (length batch) (omega arith)) refl
    where
      all : First bad (length batch) (length batch)
      all = record {
        within = omega arith;
        before = λ row l. or-false (names_no_link t batch row) (names_again batch row) (names_one row (g.named row l)) (not_again row (λ i m. g.once i row m l));
        passes = λ l. absurd (omega arith);
      }

module _ (one two : List Change) where
  -- the rows of the first batch, and behind them those of the second
  front : (row : ℕ) → row < length one → link_at (one ++ two) row ≡ link_at one row
  unfolding link_at
  front row l = ap (λ (c : Change). c.link) (get_or-append one two (record { link = no_link; cost = 0 }) row l)

  back : (row : ℕ) → link_at (one ++ two) (length one + row) ≡ link_at two row
  unfolding link_at
  back row = ap (λ (c : Change). c.link) (get_or-append-add one two row (record { link = no_link; cost = 0 }))

  behind : (row : ℕ) → length one ≤ row → link_at (one ++ two) row ≡ link_at two (row - length one)
  behind row l = let at : row ≡ length one + (row - length one) = omega arith in ap (link_at (one ++ two)) at ∙ back (row - length one)

  both_good : {links : ℕ} → GoodRows links one → GoodRows links two → NoCommonLink one two → GoodRows links (one ++ two)
  both_good {links} g h n = record { named = λ row l. named row l (dec_lt row (length one)); once = λ i row l m. once i row l m (dec_lt i (length one)) (dec_lt row (length one)) }
    where
      long : length (one ++ two) ≡ length one + length two
      long = length-append one two

      named : (row : ℕ) → row < length (one ++ two) → Dec (row < length one) → link_at (one ++ two) row < links
      named row l (yes a) = rw (front row a) (g.named row a)
      named row l (no a) = rw (behind row (omega arith)) (h.named (row - length one) (omega (arith, long)))

      once : (i row : ℕ) → i < row → row < length (one ++ two) → Dec (i < length one) → Dec (row < length one) → link_at (one ++ two) i ≢ link_at (one ++ two) row
      once i row l m a (yes b) e = g.once i row l b (sym (front i (omega arith)) ∙ e ∙ front row b)
      once i row l m (yes a) (no b) e = n.apart i (row - length one) a (omega (arith, long)) (sym (front i a) ∙ e ∙ behind row (omega arith))
      once i row l m (no a) (no b) e = h.once (i - length one) (row - length one) (omega arith) (omega (arith, long)) (sym (behind i (omega arith)) ∙ e ∙ behind row (omega arith))

-- two acceptable batches as one
module _ (t : Table) (old : Arrays) (one two : List Change) (a : Acceptable t old one) where
  -- over 256 rows are refused with 7, and no other number applies
  pub too_many : most_rows < length one + length two → judge_batch t old (one ++ two) ≡ refused 7 (only 0)
  unfolding judge_batch
  too_many l = rw (batch_tree t old one a, lt-ltb most_rows (length (one ++ two)) (omega (arith, length-append one two))) refl

  pub acceptable_as_one : Acceptable t old two → NoCommonLink one two → length one + length two ≤ most_rows → Acceptable t old (one ++ two)
  unfolding judge_batch
  acceptable_as_one b n l =
      let good = both_good one two (good_rows t one (rows_of one a)) (good_rows t two (rows_of two b)) n in
      rw (batch_tree t old one a, le-ltb most_rows (length (one ++ two)) (omega (arith, length-append one two))) (rows_good t (one ++ two) good)
    where
      rows_of : (batch : List Change) → Acceptable t old batch → judge_rows t batch ≡ accepted
      rows_of batch c = then_second (when (ltb most_rows (length batch)) 7) _ (then_second (judge_tree t old) _ c)
