-- Parents needn't agree, nor first links: two batches on the pier network without a common link lead to P5's tree in
-- one order and to P2's in the other. Assumes nothing.
use mathlib.Core.Path.{◌≡◌, refl}
use mathlib.Core.Logic.{◌≢◌}
use mathlib.Core.Bool.{true}
use mathlib.Core.List.{List, [], ◌∷◌}
use Prim.Native.Nat.{ℕ, zero, suc, ◌≤◌, ◌<◌}
use native.Mathlib.Omega.{arith}
use lib.ListN.{length, replicate}
use Rattle.rules.specs.Columns.{Table, Arrays, Whole, rows_of, after, applied, with_costs}
use Rattle.rules.specs.Refusals.{accepted, judge_batch, judge_update, link_at}
use Rattle.rules.specs.Jobs.{Updated}
use Rattle.rules.specs.declared.Change.{Change}
use Rattle.rules.proofs.Logic.{true_T}
use Rattle.rules.proofs.Judged.{then_first}
use Rattle.rules.proofs.Accepted.{built_good, update_accept}
use Rattle.pier.specs.Pier.{LinesHold, pier_lines, pier, rows, padded, tree1, tree2, tree4}
use Rattle.pier.proofs.Pier.{each, each_holds, pier_holds}
use Rattle.swapped.specs.Swapped.{Arrive, Acceptable, NoCommonLink, AlwaysSame}
use Rattle.swapped.specs.Pier.{dearer, cheaper, dearer_first, cheaper_first, swapped_lines}

update_batch : {t : Table} {old new : Arrays} {batch : List Change} {list costs listed : List ℕ} {count : ℕ} → Updated t old batch list accepted new costs listed count → Acceptable t old batch
unfolding judge_update
update_batch {t} {old} {batch = batch} u = then_first (judge_batch t old batch) _ (update_accept u refl).judged

lines_pass : each swapped_lines ≡ true
unfolding each swapped_lines
lines_pass = refl

lines_hold : LinesHold swapped_lines
lines_hold = each_holds swapped_lines (true_T (each swapped_lines) lines_pass)

-- a list with a place for each node
places : List ℕ
places = replicate 4 0

long : 4 ≤ length places
unfolding places
long = omega arith

-- the table at the end
unfoldable pub at_end : Table
unfolding pier
at_end = with_costs pier (2 ∷ 7 ∷ 4 ∷ 5 ∷ 7 ∷ 2 ∷ 1 ∷ 1 ∷ [])

pub dearer_cheaper : Arrive pier tree1 (dearer ∷ cheaper ∷ []) at_end tree4
unfolding LinesHold swapped_lines pier dearer cheaper applied at_end
dearer_cheaper = Arrive.next long (lines_hold.0 places long) (Arrive.next long (lines_hold.1.0 places long) Arrive.none)

pub cheaper_dearer : Arrive pier tree1 (cheaper ∷ dearer ∷ []) at_end tree2
unfolding LinesHold swapped_lines pier dearer cheaper applied at_end
cheaper_dearer = Arrive.next long (lines_hold.1.1.0 places long) (Arrive.next long (lines_hold.1.1.1.0 places long) Arrive.none)

-- ---- so more can't be claimed

-- P1's tree
whole : Whole tree1
unfolding LinesHold pier_lines
whole = (built_good pier_holds.0 refl).whole

acceptable_dearer : Acceptable pier tree1 dearer
unfolding LinesHold swapped_lines
acceptable_dearer = update_batch (lines_hold.0 places long)

acceptable_cheaper : Acceptable pier tree1 cheaper
unfolding LinesHold swapped_lines
acceptable_cheaper = update_batch (lines_hold.1.1.0 places long)

no_common : NoCommonLink dearer cheaper
unfolding dearer cheaper link_at
no_common = record { apart = λ row at l m. apart row at l m }
  where
    apart : (row at : ℕ) → row < 1 → at < 1 → link_at dearer row ≢ link_at cheaper at
    apart zero zero l m e = omega arith
    apart (suc row) at l m e = omega arith
    apart zero (suc at) l m e = omega arith

-- parents don't agree in general, nor do first links
pub parents_differ : AlwaysSame (λ tree. (rows_of tree).parent) → ⊥
unfolding tree2 tree4 rows padded
parents_differ claim =
    let e = claim.same whole acceptable_dearer acceptable_cheaper no_common dearer_cheaper cheaper_dearer 2 in
    omega arith

pub firsts_differ : AlwaysSame (λ tree. (rows_of tree).first) → ⊥
unfolding tree2 tree4 rows padded
firsts_differ claim =
    let e = claim.same whole acceptable_dearer acceptable_cheaper no_common dearer_cheaper cheaper_dearer 2 in
    omega arith
