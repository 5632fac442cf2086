-- A batch of too many rows is refused for its first rows alone, so that no more of it has to be read. Assumes nothing.
use mathlib.Core.Path.{◌≡◌, refl, sym, ◌∙◌}
use mathlib.Core.List.{List}
use Prim.Native.Nat.{ℕ, ◌≤◌, ◌<◌}
use native.Mathlib.Omega.{arith}
use native.Mathlib.Decide.{dec_le}
use lib.Dec.{ltb}
use lib.ListN.{length, take}
use lib.Seq.{take_all, length-take-le}
use borrow.Author.Tests.{lt-ltb}
use Rattle.rules.specs.Columns.{Table, Arrays, most_rows}
use Rattle.rules.specs.Refusals.{only, Verdict, accepted, refused, ◌then◌, when, judge_tree, judge_batch, judge_update}
use Rattle.rules.specs.Jobs.{Updated, updated, not_updated}
use Rattle.rules.specs.declared.Change.{Change}
use Rattle.rules.proofs.Judged.{not_refused}
use Rattle.gather.specs.declared.rows.Rows.{Rows}
use Rattle.gather.specs.Most.{most_read}
use Rattle.gather.specs.Gathering.{batch_of, Gathered}

module _ (t : Table) (old : Arrays) (list : List ℕ) where
  -- the verdict on a batch of too many rows, whatever they are
  abbrev over_most : Verdict
  over_most = (judge_tree t old then refused 7 (only 0)) then when (ltb (length list) t.nodes) 12

  too_many : (batch : List Change) → most_rows < length batch → judge_update t old batch list ≡ over_most
  unfolding judge_update judge_batch
  too_many batch over = rw (lt-ltb most_rows (length batch) over) refl

  never : over_most ≡ accepted → ⊥
  never = at (judge_tree t old)
    where
      at : (tree : Verdict) → (tree then refused 7 (only 0)) then when (ltb (length list) t.nodes) 12 ≡ accepted → ⊥
      at accepted e = not_refused e
      at (refused number value) e = not_refused e

module _ {t : Table} {old : Arrays} {list : List ℕ} (batch : List Change) (most : ℕ) (enough : most_rows < most) where
  -- over so many rows
  over : most < length batch → {v : Verdict} {new : Arrays} {costs listed : List ℕ} {count : ℕ}
      → Updated t old (take most batch) list v new costs listed count → Updated t old batch list v new costs listed count
  over l done = at (too_many t old list (take most batch) (omega (arith, length-take-le most batch (omega arith)))) done
    where
      at : judge_update t old (take most batch) list ≡ over_most t old list → {v : Verdict} {new : Arrays} {costs listed : List ℕ} {count : ℕ}
          → Updated t old (take most batch) list v new costs listed count → Updated t old batch list v new costs listed count
      at cut (updated changed e whole next is) = absurd (never t old list (sym cut ∙ e))
      at cut (not_updated e) = not_updated (too_many t old list batch (omega arith) ∙ sym cut ∙ e)

  -- what an update does with the first rows of a batch it does with the batch, where more than it may have are left
  pub uncut : {v : Verdict} {new : Arrays} {costs listed : List ℕ} {count : ℕ}
      → Updated t old (take most batch) list v new costs listed count → Updated t old batch list v new costs listed count
  uncut {v} {new} {costs} {listed} {count} done = at (dec_le (length batch) most)
    where
      at : Dec (length batch ≤ most) → Updated t old batch list v new costs listed count
      at (yes l) = rw (take_all most batch l) at done
      at (no l) = over (omega arith) done

-- so what an update does with the rows that were gathered of a batch it does with the batch
pub gathered_updated : {t : Table} {old : Arrays} {list : List ℕ} {batch : List Change} {r : Rows} → Gathered batch r
    → {v : Verdict} {new : Arrays} {costs listed : List ℕ} {count : ℕ}
    → Updated t old (batch_of r) list v new costs listed count → Updated t old batch list v new costs listed count
gathered_updated {batch = batch} all done = uncut batch most_read (omega arith) (rw all.rows at done)
