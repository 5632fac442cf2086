-- What an accepted batch says of the parts of the job. Assumes nothing.
use mathlib.Core.Path.{◌≡◌, refl, sym, ◌∙◌}
use mathlib.Core.Logic.{◌≢◌}
use mathlib.Core.List.{List, [], ◌∷◌}
use Prim.Native.Nat.{ℕ, suc, ◌≤◌, ◌<◌}
use native.Mathlib.Omega.{arith}
use native.Mathlib.Decide.{dec_lt, ℕ_discrete}
use lib.Dec.{ltb}
use lib.ListN.{length, get_or, set, take}
use lib.Seq.{length-take-le, get_or-take, get_or-set_other}
use borrow.Author.Tests.{lt-ltb}
use Rattle.rules.specs.Fit.{Fits}
use Rattle.rules.specs.Columns.{Table, Arrays, Proper, Whole, narrow, net_in, net_of, rows_of as tree_rows, applied, after, with_costs, unreached}
use Rattle.rules.specs.Refusals.{Verdict, accepted, when, judge_tree, judge_batch, judge_update, link_at}
use Rattle.rules.specs.Jobs.{changed_below, Updated, updated, not_updated}
use Rattle.rules.specs.Demands.{SixteenBit}
use Rattle.rules.specs.declared.Change.{Change}
use Rattle.rules.specs.declared.Profile.{Profile}
use Rattle.rules.proofs.Sound.{fits_shortest, root_zero, walk_node}
use Rattle.rules.proofs.Judged.{legal, tree_accepted, not_refused, then_first, then_second}
use Rattle.rules.proofs.OneOutcome.{tree_links, update_links, after_proper}
use Rattle.rules.proofs.Accepted.{largest_distance}
use Rattle.judge.proofs.Laws.{refusal}
use Rattle.level.specs.Level.{Ample}
use Rattle.level.proofs.Laws.{ample}
use Rattle.batch.specs.Rows.{rows_of_columns, rows_of, Named}
use Rattle.batch.specs.declared.Columns.{Columns}
use Rattle.batch.proofs.Laws.{links_fewer, costs_fewer, row_at}
use Rattle.batch.proofs.Batches.{rows_named}
use Rattle.changed.specs.Listed.{ListedBelow}
use Rattle.grow.specs.Grown.{Old, Fitted, Regrown}

-- no more rows than links
pub rows_fewer : (links costs : List ℕ) → length (rows_of_columns links costs) ≤ length links
rows_fewer links costs = at (dec_lt (length links) (length costs))
  where
    at : Dec (length links < length costs) → length (rows_of_columns links costs) ≤ length links
    at (yes l) = omega (arith, links_fewer links costs (omega arith))
    at (no l) = omega (arith, costs_fewer links costs (omega arith))

-- a link that no row names keeps its cost
applied_other : (batch : List Change) (costs : List ℕ) (k : ℕ) → ((row : ℕ) → row < length batch → link_at batch row ≢ k)
    → get_or (applied batch costs) k 0 ≡ get_or costs k 0
unfolding applied link_at
applied_other [] costs k apart = refl
applied_other (row ∷ rows) costs k apart =
    applied_other rows (set costs row.link row.cost) k (λ m l. apart (suc m) (omega arith))
    ∙ get_or-set_other costs row.link k row.cost 0 (λ e. apart 0 (omega arith) (sym e))

module _ (t : Table) (old : Arrays) (batch : List Change) (list : List ℕ) (e : judge_update t old batch list ≡ accepted) where
  pub update_proper : Proper t
  update_proper = tree_links t old (update_links t old batch list e)

  pub update_after : Proper (after t batch)
  update_after = after_proper batch update_proper

  batch_accepted : judge_batch t old batch ≡ accepted
  unfolding judge_update
  batch_accepted = then_first (judge_batch t old batch) _ e

  pub update_named : Named (length t.costs) batch
  unfolding judge_batch
  update_named = rw (← update_proper.costs_long) (rows_named t batch (then_second (when (ltb 256 (length batch)) 7) _ (then_second (judge_tree t old) _ batch_accepted)))

  pub update_room : t.nodes ≤ length list
  unfolding judge_update
  update_room = at (dec_lt (length list) t.nodes)
    where
      at : Dec (length list < t.nodes) → t.nodes ≤ length list
      at (yes l) = absurd (not_refused (rw (batch_accepted, lt-ltb (length list) t.nodes l) at e))
      at (no l) = omega arith

  -- the old tree is one to regrow from, over the new costs
  update_old : Whole old → SixteenBit t.costs → Old narrow (after t batch) old
  update_old w c =
      let fine = tree_accepted t old w (update_links t old batch list e) in
      let short = fits_shortest (legal fine.0) fine.1 in
      record { whole = w; most = most fine; root_zero = root_zero (fine.1.row t.root); root_parent = short.root_parent }
    where
      most : Proper t × Fits (net_of t) (tree_rows old) → (v : ℕ) → (tree_rows old).dist v ≤ unreached
      most fine v = at (ℕ_discrete ((tree_rows old).dist v) unreached) (dec_lt v t.nodes)
        where
          at : Dec ((tree_rows old).dist v ≡ unreached) → Dec (v < t.nodes) → (tree_rows old).dist v ≤ unreached
          at (yes q) d = omega arith
          at (no q) (yes l) = omega (arith, largest_distance (record { table = fine.0; whole = w; fits = fine.1 }) c v l q)
          at (no q) (no l) = absurd (omega (arith, walk_node (legal fine.0) ((fits_shortest (legal fine.0) fine.1).least v q).walk))

  -- and it fitted while the rows' links had other costs
  fitted_after : (columns : Columns) → batch ≡ rows_of columns → Whole old → SixteenBit t.costs
      → Fitted narrow (after t batch) (take (length batch) columns.links.now) old
  fitted_after columns is w c =
      record {
        old = update_old w c;
        named = record { named = λ m l. rw (link_at_lem m (in_batch m l)) (rw (← update_proper.costs_long) at (update_named.named m (in_batch m l))) };
        costs = t.costs;
        same = λ k apart. sym (applied_other batch t.costs k (λ m l e. apart m (rw length_take_changed l) (link_at_lem m l ∙ e)));
        fits = (tree_accepted t old w (update_links t old batch list e)).1;
      }
    where
      length_take_changed : length (take (length batch) columns.links.now) ≡ length batch
      length_take_changed = rw is (length-take-le (length (rows_of columns)) columns.links.now (rows_fewer columns.links.now columns.costs.now))

      in_batch : (m : ℕ) → m < length (take (length batch) columns.links.now) → m < length batch
      in_batch m l = omega (arith, length_take_changed)

      link_at_lem : (m : ℕ) → m < length batch → get_or (take (length batch) columns.links.now) m 0 ≡ link_at batch m
      link_at_lem m l = get_or-take (length batch) columns.links.now m 0 l ∙ rw is (sym (row_at columns.links.now columns.costs.now m (rw is at l)).link)

  -- the judged table over the costs that were written
  module _ (p : Profile) (judged : Table) (costs : List ℕ) (narrow_is : p ≡ narrow) (same : judged ≡ with_costs t costs) (written : costs ≡ applied batch t.costs) where
    pub update_ample : SixteenBit costs → Ample (net_in p judged)
    update_ample c = rw (narrow_is, same) (ample (rw written update_after) c)

    -- the rows name as many links as the columns have rows
    pub update_fitted : (columns : Columns) → batch ≡ rows_of columns → Whole old → SixteenBit t.costs → (rows : ℕ) → rows ≡ length batch
        → Fitted p judged (take rows columns.links.now) old
    update_fitted columns is w c rows count = rw (narrow_is, same, written, count) (fitted_after columns is w c)

    pub update_updated : {new : Arrays} {listed : List ℕ} {count : ℕ} → Regrown p judged old.parent new → ListedBelow old new t.nodes list listed count
        → Updated t old batch list accepted new costs listed count
    update_updated {new} g l =
        let next = rw (narrow_is, same, written) at g in
        rw (written, l.front narrow, l.counted narrow) (updated (changed_below (tree_rows old) (tree_rows new) t.nodes) e next.whole next.next refl)

pub update_refused : {t : Table} {old : Arrays} {batch : List Change} {list : List ℕ} {v : Verdict} → v ≡ judge_update t old batch list → (v ≡ accepted → ⊥)
    → Updated t old batch list v old t.costs list 0
update_refused {v = v} is n =
    let r = refusal v n in
    rw r.is (not_updated (sym is ∙ r.is))
