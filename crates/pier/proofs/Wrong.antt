-- The wrong programs that 01 names: none of them keeps the rules. Each is refuted on the pier network.
-- Assumes nothing.
use mathlib.Core.Path.{◌≡◌, sym, ap, ◌∙◌}
use mathlib.Core.Logic.{◌≢◌}
use mathlib.Core.List.{List, [], ◌∷◌}
use Prim.Native.Nat.{ℕ, ◌≤◌}
use native.Mathlib.Omega.{arith}
use lib.ListN.{length}
use Rattle.rules.specs.Columns.{Arrays, rows_of, after, applied}
use Rattle.rules.specs.Refusals.{Values, Verdict, accepted, refused}
use Rattle.rules.specs.Jobs.{written, Built, Updated}
use Rattle.pier.specs.Pier.{LinesHold, pier_lines, pier, lone, rows, padded, batch2, batch4, tree1, tree2, tree4, tree12}
use Rattle.rules.proofs.Judged.{not_refused}
use Rattle.rules.proofs.OneOutcome.{built_once, updated_once}
use Rattle.pier.proofs.Pier.{pier_holds}

-- ---- the lines that are used

p1 : Built pier accepted tree1
unfolding LinesHold pier_lines
p1 = pier_holds.0

p2 : (list : List ℕ) → 4 ≤ length list → Updated pier tree1 batch2 list accepted tree2 (applied batch2 pier.costs) (written (1 ∷ 2 ∷ 3 ∷ []) list) 3
unfolding LinesHold pier_lines pier
p2 = pier_holds.1.0

p4 : (list : List ℕ) → 4 ≤ length list
    → Updated (after pier batch2) tree2 batch4 list accepted tree4 (applied batch4 (applied batch2 pier.costs)) (written (2 ∷ 3 ∷ []) list) 2
unfolding LinesHold pier_lines pier
p4 = pier_holds.1.1.1.0

p12 : Built lone accepted tree12
unfolding LinesHold pier_lines
p12 = pier_holds.1.1.1.1.1.1.1.1.1.1.1.1.0

differ_at : {r s : Arrays} (v : ℕ) → (rows_of r).dist v ≢ (rows_of s).dist v → r ≢ s
differ_at v n e = n (ap (λ (t : Arrays). (rows_of t).dist v) e)

-- ---- a build that refuses every time

pub never_builds : {number : ℕ} {values : Values} {tree : Arrays} → Built pier (refused number values) tree → ⊥
never_builds b = not_refused (built_once b p1).verdict

-- ---- one fixed tree

pub fixed_tree : {tree : Arrays} → Built pier accepted tree → Built lone accepted tree → ⊥
unfolding tree1 tree12 rows padded
fixed_tree a b = differ_at 1 (λ e. omega arith) (sym (built_once a p1).tree ∙ (built_once b p12).tree)

module _ {list costs listed : List ℕ} {count : ℕ} (long : 4 ≤ length list) where
  -- ---- an update that refuses every time
  pub never_updates : {number : ℕ} {values : Values} {tree : Arrays} → Updated pier tree1 batch2 list (refused number values) tree costs listed count → ⊥
  never_updates u = not_refused (updated_once u (p2 list long)).verdict

  -- ---- one that hands its tree back
  pub hands_back : {v : Verdict} → Updated pier tree1 batch2 list v tree1 costs listed count → ⊥
  unfolding tree1 tree2 rows padded
  hands_back u = differ_at 1 (λ e. omega arith) (updated_once u (p2 list long)).tree

  -- ---- one that applies only the first batch: the second finds tree and costs as the first left them
  pub first_only : {v : Verdict} → Updated (after pier batch2) tree2 batch4 list v tree2 costs listed count → ⊥
  unfolding tree2 tree4 rows padded
  first_only u =
      let same = ap (λ (t : Arrays). (rows_of t).parent 2) (updated_once u (p4 list long)).tree in
      omega arith

  -- ---- a made-up count of changed nodes
  pub made_up_count : {v : Verdict} {tree : Arrays} → Updated pier tree1 batch2 list v tree costs listed count → count ≢ 3 → ⊥
  made_up_count u n = n (updated_once u (p2 list long)).count

  -- ---- nodes counted only where the distance moved: P4 moves none
  pub moved_only : {v : Verdict} {tree : Arrays} → Updated (after pier batch2) tree2 batch4 list v tree costs listed count → count ≡ 0 → ⊥
  moved_only u z = omega (arith, (updated_once u (p4 list long)).count)

  -- ---- a rebuild from nothing, which is P3; two passes, raising and then lowering, end with the same tree
  pub rebuilds : {v : Verdict} → Updated pier tree1 batch2 list v tree4 costs listed count → ⊥
  unfolding tree2 tree4 rows padded
  rebuilds u =
      let same = ap (λ (t : Arrays). (rows_of t).parent 2) (updated_once u (p2 list long)).tree in
      omega arith
