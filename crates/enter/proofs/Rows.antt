-- Once the rows so far are accepted, one more is judged by itself and the links that they name. Assumes nothing.
use mathlib.Core.Path.{◌≡◌, refl, sym, ap, ◌∙◌}
use mathlib.Core.Bool.{Bool, true, false, ◌||◌, cond}
use mathlib.Core.List.{List, [], ◌∷◌}
use Prim.Native.Nat.{ℕ, ◌+◌, ◌≤◌, ◌<◌}
use native.Mathlib.Omega.{arith}
use lib.Dec.{eqb, ltb, leb}
use lib.ListN.{length, get_or, length-append, get_or-append}
use lib.Seq.{get_or-append_seam}
use borrow.Author.Count.{below_more}
use borrow.Author.Tests.{lt-ltb, le-ltb, ltb-false, le-leb, lt-leb, eq-eqb, ne_eqb}
use Rattle.rules.specs.Tests.{first_below}
use Rattle.rules.specs.Columns.{Table, most_rows}
use Rattle.rules.specs.Refusals.{only, both, earliest, accepted, refused, link_at, names_no_link, names_again, first_bad_row, judge_rows}
use Rattle.rules.specs.declared.Change.{Change}
use Rattle.std.specs.Prelude.{Ok, Err, None, Some}
use Rattle.rules.specs.declared.Refusal.TheVariants.{TooManyRows, RowNamesNoLink, RowNamesLinkAgain}
use Rattle.rules.proofs.Logic.{First, first_of, first_is}
use Rattle.rules.proofs.Judged.{not_refused}
use Rattle.batch.specs.Rows.{rows_of_columns}
use Rattle.batch.proofs.Laws.{links_fewer, row_at}
use Rattle.enter.specs.More.{with_one_more, judge_waiting, first_naming, FirstNaming, RowJudged}

-- two tests that agree below n have the same first place
same_first : (p q : ℕ → Bool) (n : ℕ) → ((j : ℕ) → j < n → p j ≡ q j) → first_below p n ≡ first_below q n
same_first p q n same =
    let f = first_of q n in
    first_is (record { within = f.within; before = λ j l. same j (omega (arith, f.within)) ∙ f.before j l; passes = λ l. same (first_below q n) l ∙ f.passes l })

module _ (t : Table) (batch : List Change) where
  bad : ℕ → Bool
  bad row = names_no_link t batch row || names_again batch row

-- of accepted rows none is bad
none_bad : (t : Table) (batch : List Change) → judge_rows t batch ≡ accepted → (row : ℕ) → row < length batch → bad t batch row ≡ false
unfolding bad judge_rows first_bad_row
none_bad t batch e row l = at (ltb (first_bad_row t batch) (length batch)) refl
  where
    at : (b : Bool) → ltb (first_bad_row t batch) (length batch) ≡ b → bad t batch row ≡ false
    at true f = absurd (not_refused (rw f at e))
    at false f = (first_of (bad t batch) (length batch)).before row (omega (arith, ltb-false (first_bad_row t batch) (length batch) f))

module _ (t : Table) (changed newcosts : List ℕ) (link cost : ℕ) (long : length newcosts ≡ length changed) (fine : judge_rows t (rows_of_columns changed newcosts) ≡ accepted) where
  abbrev so_far : List Change
  so_far = rows_of_columns changed newcosts

  abbrev more : List Change
  more = rows_of_columns (with_one_more changed link) (with_one_more newcosts cost)

  so_far_long : length so_far ≡ length changed
  so_far_long = links_fewer changed newcosts (omega arith)

  more_long : length more ≡ length changed + 1
  more_long =
      links_fewer (with_one_more changed link) (with_one_more newcosts cost) (omega (arith, length-append changed (link ∷ []), length-append newcosts (cost ∷ [])))
      ∙ length-append changed (link ∷ [])

  names_before : (row : ℕ) → row < length changed → link_at more row ≡ get_or changed row 0
  names_before row l = (row_at (with_one_more changed link) (with_one_more newcosts cost) row (omega (arith, more_long))).link ∙ get_or-append changed (link ∷ []) 0 row l

  names_same : (row : ℕ) → row < length changed → link_at more row ≡ link_at so_far row
  names_same row l = names_before row l ∙ sym (row_at changed newcosts row (omega (arith, so_far_long))).link

  names_last : link_at more (length changed) ≡ link
  names_last = (row_at (with_one_more changed link) (with_one_more newcosts cost) (length changed) (omega (arith, more_long))).link ∙ get_or-append_seam changed link [] 0

  good_before : (row : ℕ) → row < length changed → bad t more row ≡ false
  unfolding bad names_no_link names_again
  good_before row l =
      rw (
        same_first (λ earlier. eqb (link_at more earlier) (link_at more row)) (λ earlier. eqb (link_at so_far earlier) (link_at so_far row)) row
            (λ earlier m. rw (names_same earlier (omega arith), names_same row l) refl),
        names_same row l,
      ) (none_bad t so_far fine row (omega (arith, so_far_long)))

  earliest_last : earliest more (length changed) ≡ first_naming changed link
  earliest_last =
      same_first (λ earlier. eqb (link_at more earlier) (link_at more (length changed))) (λ earlier. eqb (get_or changed earlier 0) link) (length changed)
      (λ earlier l. rw (names_before earlier l, names_last) refl)

  again_last : names_again more (length changed) ≡ ltb (first_naming changed link) (length changed)
  unfolding names_again
  again_last = ap (λ (first : ℕ). ltb first (length changed)) earliest_last

  no_link_last : names_no_link t more (length changed) ≡ leb (length t.starts) link
  unfolding names_no_link
  no_link_last = rw names_last refl

  module _ {no_such_link again : Bool} (n : leb (length t.starts) link ≡ no_such_link) (a : ltb (first_naming changed link) (length changed) ≡ again) where
    last_bad : bad t more (length changed) ≡ (no_such_link || again)
    unfolding bad
    last_bad = rw (no_link_last ∙ n, again_last ∙ a) refl

    pub last_decides : (length changed < most_rows) → cond (no_such_link || again) (refused (cond no_such_link 8 9) (both (length changed) (cond no_such_link 0 (first_naming changed link)))) accepted ≡ judge_waiting t more
    unfolding judge_rows bad first_bad_row
    last_decides few = at (no_such_link || again) refl
      where
        at : (b : Bool) → (no_such_link || again) ≡ b → cond b (refused (cond no_such_link 8 9) (both (length changed) (cond no_such_link 0 (first_naming changed link)))) accepted ≡ judge_waiting t more
        at true e =
            let here : First (bad t more) (length changed + 1) (length changed) = record { within = omega arith; before = good_before; passes = λ l. last_bad ∙ e } in
            rw (more_long, le-ltb most_rows (length changed + 1) (omega arith), first_is here, lt-ltb (length changed) (length changed + 1) (omega arith), no_link_last ∙ n, earliest_last) refl
        at false e =
            let none : First (bad t more) (length changed + 1) (length changed + 1) =
            record { within = omega arith; before = below_more (λ row. bad t more row ≡ false) (length changed) good_before (last_bad ∙ e); passes = λ l. absurd (omega arith) } in
            rw (more_long, le-ltb most_rows (length changed + 1) (omega arith), first_is none, le-ltb (length changed + 1) (length changed + 1) (omega arith)) refl

  pub full : most_rows ≤ length changed → refused 7 (only 0) ≡ judge_waiting t more
  full l = rw (more_long, lt-ltb most_rows (length changed + 1) (omega arith)) refl

-- ---- the four answers

module _ (changed : List ℕ) (link : ℕ) where
  named_first : {first : ℕ} → FirstNaming changed link (Some first) → first_naming changed link ≡ first
  named_first f = first_is (record { within = omega (arith, f.0); before = λ row l. ne_eqb _ _ (f.2 row l); passes = λ l. eq-eqb _ _ f.1 })

  named_nowhere : FirstNaming changed link None → first_naming changed link ≡ length changed
  named_nowhere f = first_is (record { within = omega arith; before = λ row l. ne_eqb _ _ (f row l); passes = λ l. absurd (omega arith) })

module _ {links : ℕ} {changed : List ℕ} {link : ℕ} where
  pub no_place : most_rows ≤ length changed → RowJudged links changed link (Err TooManyRows)
  no_place l = record { verdict = λ t newcosts cost e long fine. full t changed newcosts link cost long fine l; room = λ a. absurd (not_refused a) }

  module _ (room : length changed < most_rows) where
    pub no_such_link : links ≤ link → RowJudged links changed link (Err (RowNamesNoLink (length changed)))
    no_such_link l = record {
      verdict = λ t newcosts cost e long fine. last_decides t changed newcosts link cost long fine (le-leb (length t.starts) link (omega arith)) refl room;
      room = λ a. room;
    }

    module _ (is_link : link < links) where
      pub again : {first : ℕ} → FirstNaming changed link (Some first) → RowJudged links changed link (Err (RowNamesLinkAgain (length changed) first))
      again f = rw (← named_first changed link f) (record {
        verdict = λ t newcosts cost e long fine.
            last_decides t changed newcosts link cost long fine (lt-leb (length t.starts) link (omega arith)) (lt-ltb _ _ (omega (arith, f.0, named_first changed link f))) room;
        room = λ a. room;
      })

      pub right_row : FirstNaming changed link None → RowJudged links changed link (Ok tt)
      right_row f = record {
        verdict = λ t newcosts cost e long fine.
            last_decides t changed newcosts link cost long fine (lt-leb (length t.starts) link (omega arith)) (le-ltb _ _ (omega (arith, named_nowhere changed link f))) room;
        room = λ a. room;
      }
