-- For callers: a batch's refusal after its tree's, and what an accepted batch names. Assumes nothing.
use mathlib.Core.Path.{◌≡◌, refl}
use mathlib.Core.Bool.{Bool, true, false, ◌||◌}
use mathlib.Core.List.{List}
use Prim.Native.Nat.{ℕ, ◌<◌}
use native.Mathlib.Omega.{arith}
use native.Mathlib.Decide.{dec_lt}
use lib.Dec.{leb}
use lib.ListN.{length}
use borrow.Author.Tests.{lt-ltb, leb-false}
use Rattle.rules.specs.Tests.{first_below}
use Rattle.rules.specs.Columns.{Table, Arrays}
use Rattle.rules.specs.Refusals.{accepted, link_at, names_no_link, names_again, first_bad_row, judge_rows, judge_tree, judge_batch}
use Rattle.rules.specs.Answers.{Answer, told}
use Rattle.rules.specs.declared.Change.{Change}
use Rattle.rules.proofs.Logic.{First, first_of, true_false}
use Rattle.rules.proofs.Judged.{not_refused}
use Rattle.batch.specs.Rows.{BatchJudged, Named}

or_no_l : (a b : Bool) → (a || b) ≡ false → a ≡ false
or_no_l true b e = absurd (true_false e)
or_no_l false b e = refl

-- refusals 7 to 9 are what is left once the tree fits
pub batch_decides : {batch : List Change} {answer : Answer} (t : Table) (tree : Arrays) → BatchJudged (length t.starts) batch answer
    → judge_tree t tree ≡ accepted → told answer ≡ judge_batch t tree batch
unfolding judge_batch
batch_decides t tree j e = rw e (j.verdict t refl)

-- each row of an accepted batch names a link
pub rows_named : (t : Table) (batch : List Change) → judge_rows t batch ≡ accepted → Named (length t.starts) batch
unfolding judge_rows first_bad_row names_no_link
rows_named t batch e = record { named = λ row l. at row l (first_of test (length batch)) (dec_lt (first_below test (length batch)) (length batch)) }
  where
    test : ℕ → Bool
    test row = leb (length t.starts) (link_at batch row) || names_again batch row

    at : (row : ℕ) → row < length batch → First test (length batch) (first_below test (length batch)) → Dec (first_below test (length batch) < length batch)
        → link_at batch row < length t.starts
    at row l f (yes s) = absurd (not_refused (rw (lt-ltb (first_below test (length batch)) (length batch) s) at e))
    at row l f (no s) = leb-false (length t.starts) (link_at batch row) (or_no_l _ _ (f.before row (omega arith)))
