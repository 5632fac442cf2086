-- The rows of two columns, the pass that judges them, and the writing of their costs. Assumes nothing.
use mathlib.Core.Path.{◌≡◌, refl, sym, ap, ◌∙◌}
use mathlib.Core.Bool.{Bool, true, false, ◌||◌}
use mathlib.Core.List.{List, [], ◌∷◌}
use Prim.Native.Nat.{ℕ, zero, suc, ◌+◌, ◌≤◌, ◌<◌}
use native.Mathlib.Omega.{arith}
use native.Mathlib.Nat.{not-suc-le-zero, le_of_suc-le-suc}
use native.Mathlib.Numerals.{add-one}
use lib.Dec.{eqb, ltb, leb}
use lib.ListN.{length, get_or, set, drop, length-set, drop_of_length-le}
use lib.Seq.{drop-cons}
use borrow.Author.Count.{below_none, below_more}
use borrow.Author.Tests.{lt-ltb, le-ltb, le-leb, lt-leb, eq-eqb, ne_eqb}
use Rattle.rules.specs.Columns.{Table, applied, most_rows}
use Rattle.std.specs.Prelude.{Ok, Err, min}
use Rattle.rules.specs.Refusals.{earliest, link_at, names_no_link, names_again, first_bad_row, judge_rows}
use Rattle.rules.specs.declared.Change.{Change}
use Rattle.rules.specs.declared.Refusal.TheVariants.{TooManyRows, RowNamesNoLink, RowNamesLinkAgain}
use Rattle.rules.proofs.Logic.{First, first_is, or-false}
use Rattle.batch.specs.Rows.{rows_of_columns, rows_of, change_at, RowsJudged, BatchJudged, Named}
use Rattle.batch.specs.declared.Columns.{Columns}
use Rattle.threads.specs.Threads.{Threaded, Earliest}
use Rattle.threads.specs.declared.Threads.{Threads}

-- ---- two columns

pub rows_long : (links costs : List ℕ) → length (rows_of_columns links costs) ≡ min (length links) (length costs)
unfolding rows_of_columns
rows_long [] costs = omega arith
rows_long (link ∷ links) [] = omega arith
rows_long (link ∷ links) (cost ∷ costs) = omega (arith, rows_long links costs)

pub links_fewer : (links costs : List ℕ) → length links ≤ length costs → length (rows_of_columns links costs) ≡ length links
links_fewer links costs l = omega (arith, rows_long links costs)

pub costs_fewer : (links costs : List ℕ) → length costs ≤ length links → length (rows_of_columns links costs) ≡ length costs
costs_fewer links costs l = omega (arith, rows_long links costs)

-- a row is a place of both columns
pub record RowAt (links costs : List ℕ) (row : ℕ) : Type 0 where
  pub has_link : row < length links
  pub has_cost : row < length costs
  pub change : (d : Change) → get_or (rows_of_columns links costs) row d ≡ record { link = get_or links row 0; cost = get_or costs row 0 }
  pub link : link_at (rows_of_columns links costs) row ≡ get_or links row 0

pub row_at : (links costs : List ℕ) (row : ℕ) → row < length (rows_of_columns links costs) → RowAt links costs row
unfolding rows_of_columns link_at
row_at [] costs row l = absurd (not-suc-le-zero l)
row_at (link ∷ links) [] row l = absurd (not-suc-le-zero l)
row_at (link ∷ links) (cost ∷ costs) zero l = record { has_link = omega arith; has_cost = omega arith; change = λ d. refl; link = refl }
row_at (link ∷ links) (cost ∷ costs) (suc row) l =
    let before = row_at links costs row (le_of_suc-le-suc l) in
    record {
      has_link = omega (arith, before.has_link);
      has_cost = omega (arith, before.has_cost);
      change = before.change;
      link = before.link;
    }

-- ---- the pass over the rows

-- a row is bad in a table of so many links
unfoldable pub bad : ℕ → List Change → ℕ → Bool
unfolding link_at names_again
bad links batch row = leb links (link_at batch row) || names_again batch row

-- the first i rows are good, and threaded
pub record Passed (links : ℕ) (columns : Columns) (threads : Threads) (i : ℕ) : Type 0 where
  pub within : i ≤ length (rows_of columns)
  pub good : (row : ℕ) → row < i → bad links (rows_of columns) row ≡ false
  pub threaded : Threaded columns.links.now threads i

pub passed_none : (links : ℕ) (columns : Columns) {threads : Threads} → Threaded columns.links.now threads 0 → Passed links columns threads 0
passed_none links columns none = record {
  within = omega arith;
  good = below_none (λ row. bad links (rows_of columns) row ≡ false);
  threaded = none;
}

module _ {links : ℕ} {columns : Columns} {threads : Threads} {i : ℕ} (p : Passed links columns threads i) where
  abbrev batch : List Change
  batch = rows_of columns

  abbrev link_of : ℕ → ℕ
  link_of row = get_or columns.links.now row 0

  -- the first bad row, or their number
  first_bad : (i < length batch → bad links batch i ≡ true) → (t : Table) → length t.starts ≡ links → first_bad_row t batch ≡ i
  unfolding bad first_bad_row names_no_link
  first_bad here t e =
      let first : First (bad links batch) (length batch) i = record { within = p.within; before = p.good; passes = here } in
      first_is (rw (← e) at first)

  pub none_bad : length batch ≤ i → RowsJudged links batch (Ok tt)
  unfolding judge_rows
  none_bad end = record {
    verdict = λ t e. rw (first_bad (λ l. absurd (omega arith)) t e, le-ltb i (length batch) end);
  }

  module _ (row : i < length batch) where
    link_there : (k : ℕ) → k < i + 1 → link_at batch k ≡ link_of k
    link_there k l = (row_at columns.links.now columns.costs.now k (omega arith)).link

    pub no_such_link : links ≤ link_of i → RowsJudged links batch (Err (RowNamesNoLink i))
    unfolding judge_rows names_no_link bad
    no_such_link l =
        let past : leb links (link_at batch i) ≡ true = rw (link_there i (omega arith)) (le-leb links (link_of i) l) in
        record { verdict = λ t e. rw (first_bad (λ m. rw past) t e, lt-ltb i (length batch) row, e, past) }

    module _ (is_link : link_of i < links) {r : ℕ} (e : Earliest columns.links.now i (link_of i) r) where
      is_here : leb links (link_at batch i) ≡ false
      is_here = rw (link_there i (omega arith)) (lt-leb links (link_of i) is_link)

      same_row : earliest batch i ≡ r
      same_row = first_is first
        where
          first : First (λ earlier. eqb (link_at batch earlier) (link_at batch i)) i r
          first = record {
            within = e.within;
            before = λ k l. rw (link_there k (omega (arith, e.within)), link_there i (omega arith)) (ne_eqb _ _ (e.none_before k l));
            passes = λ l. rw (link_there r (omega arith), link_there i (omega arith)) (eq-eqb _ _ (e.names l));
          }

      again : names_again batch i ≡ ltb r i
      unfolding names_again
      again = ap (λ (f : ℕ). ltb f i) same_row

      pub named_again : r < i → RowsJudged links batch (Err (RowNamesLinkAgain i r))
      unfolding judge_rows names_no_link bad
      named_again l =
          record { verdict = λ t q. rw (first_bad (λ m. rw (is_here, again, lt-ltb r i l)) t q, lt-ltb i (length batch) row, q, is_here, same_row) }

    pub passed_more : link_of i < links → Earliest columns.links.now i (link_of i) i → {next : Threads} → Threaded columns.links.now next (i + 1)
        → Passed links columns next (i + 1)
    unfolding bad
    passed_more is_link none threaded = record {
      within = omega arith;
      good = below_more (λ row. bad links batch row ≡ false) i p.good (or-false _ _ (is_here is_link none) (again is_link none ∙ le-ltb i i (omega arith)));
      threaded = threaded;
    }

-- ---- the number of rows

module _ {links : ℕ} {batch : List Change} where
  pub too_many : most_rows < length batch → BatchJudged links batch (Err TooManyRows)
  too_many l = record { verdict = λ t e. rw (lt-ltb most_rows (length batch) l) }

  pub not_too_many : length batch ≤ most_rows → {answer : _} → RowsJudged links batch answer → BatchJudged links batch answer
  not_too_many l j = record { verdict = λ t e. rw (le-ltb most_rows (length batch) l) (j.verdict t e) }

-- ---- the costs

-- the rows from i on are still to be written
pub record Writing (batch : List Change) (entry costs : List ℕ) (i : ℕ) : Type 0 where
  pub within : i ≤ length batch
  pub long : length costs ≡ length entry
  pub rest : applied (drop i batch) costs ≡ applied batch entry

pub writing_none : (batch : List Change) (entry : List ℕ) → Writing batch entry entry 0
writing_none batch entry = record { within = omega arith; long = refl; rest = refl }

module _ (columns : Columns) {i : ℕ} {row : Change} (is : row ≡ change_at columns i) (l : i < length (rows_of columns)) where
  pub named_row : {links : ℕ} → Named links (rows_of columns) → row.link < links
  named_row names = rw (is, ← (row_at columns.links.now columns.costs.now i l).link) (names.named i l)

  pub writing_more : {entry costs : List ℕ} → Writing (rows_of columns) entry costs i
      → Writing (rows_of columns) entry (set costs row.link row.cost) (i + 1)
  unfolding applied
  writing_more {costs = costs} w =
      let split : drop i (rows_of columns) ≡ row ∷ drop (suc i) (rows_of columns) = rw (is, ← (row_at columns.links.now columns.costs.now i l).change row) (drop-cons (rows_of columns) i row l) in
      record {
        within = omega arith;
        long = length-set costs row.link row.cost ∙ w.long;
        rest = rw add-one (sym (ap (λ (rows : List Change). applied rows costs) split) ∙ w.rest);
      }

pub writing_end : {batch : List Change} {entry costs : List ℕ} {i : ℕ} → Writing batch entry costs i → length batch ≤ i → costs ≡ applied batch entry
unfolding applied
writing_end {batch} {entry} {costs} w end = sym (ap (λ (rows : List Change). applied rows costs) (drop_of_length-le batch end)) ∙ w.rest
