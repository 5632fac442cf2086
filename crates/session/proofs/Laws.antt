-- The update by the rows that wait is accepted. Assumes nothing.
use mathlib.Core.Path.{◌≡◌, refl, sym, ap, ◌∙◌}
use mathlib.Core.List.{List, ◌++◌}
use Prim.Native.Nat.{ℕ}
use Rattle.std.specs.Prelude.{Result, Ok, Err}
use Rattle.std.specs.Result.{result_unwrap_or}
use native.Mathlib.Omega.{arith}
use lib.ListN.{length, take, drop}
use lib.Seq.{length-take-le, take_at, drop_at}
use borrow.Author.Tests.{le-ltb}
use Rattle.rules.specs.Columns.{Table, Arrays, most_rows}
use Rattle.rules.specs.Refusals.{Verdict, accepted, judge_batch, judge_update}
use Rattle.rules.specs.Answers.{count_in}
use Rattle.rules.specs.declared.Refusal.{Refusal}
use Rattle.rules.specs.Jobs.{Updated, updated, not_updated}
use Rattle.rules.specs.declared.Change.{Change}
use Rattle.rules.proofs.OneOutcome.{tree_links, length_applied}
use Rattle.rules.proofs.Accepted.{update_accept}
use Rattle.batch.proofs.Laws.{links_fewer}
use Rattle.tree.specs.Value.{arrays_of}
use Rattle.state.specs.declared.State.{State}
use Rattle.state.specs.States.{table_of, waiting}
use Rattle.session.specs.Holding.{Lent, TreeStands}

-- the count that an update hands back, 0 where it refuses
pub counted : (answer : Result ℕ Refusal) → result_unwrap_or answer 0 ≡ count_in answer
counted (Ok n) = refl
counted (Err r) = refl

update_verdict : {t : Table} {old new : Arrays} {batch : List Change} {list costs listed : List ℕ} {v : Verdict} {count : ℕ}
    → Updated t old batch list v new costs listed count → v ≡ judge_update t old batch list
update_verdict (updated changed e w n q) = sym e
update_verdict (not_updated e) = sym e

module _ {s : State} {starts ends costs changed newcosts list : List ℕ} (t : TreeStands s starts ends costs changed newcosts) (w : Lent changed newcosts list) where
  -- the rows that wait are never refused: nor is the tree, nor the list
  pub apply_accepted : judge_update (table_of s starts ends costs) (arrays_of s.tree) (waiting s changed newcosts) list ≡ accepted
  unfolding judge_update judge_batch
  apply_accepted =
      let fine = tree_links (table_of s starts ends costs) (arrays_of s.tree) t.judged in
      let links = length-take-le s.rows changed (omega (arith, t.few_rows, w.changed_long)) in
      let prices = length-take-le s.rows newcosts (omega (arith, t.few_rows, w.newcosts_long)) in
      let rows : length (waiting s changed newcosts) ≡ s.rows = links_fewer (take s.rows changed) (take s.rows newcosts) (omega arith) ∙ links in
      rw (
        t.judged,
        le-ltb most_rows (length (waiting s changed newcosts)) (omega (arith, rows, t.few_rows)),
        t.rows_judged,
        le-ltb (length list) s.nodes (omega (arith, fine.few_nodes, w.list_long)),
      ) refl

  module _ {v : Verdict} {new : Arrays} {front listed : List ℕ} {count : ℕ}
      (u : Updated (table_of s starts ends costs) (arrays_of s.tree) (waiting s changed newcosts) list v new front listed count) where
    front_long : length front ≡ s.links
    front_long =
        let a = update_accept u (update_verdict u ∙ apply_accepted) in
        ap length a.costs ∙ length_applied (waiting s changed newcosts) (take s.links costs) ∙ length-take-le s.links costs (omega (arith, t.few_links, t.columns.costs_long))

    pub apply_updated : Updated (table_of s starts ends costs) (arrays_of s.tree) (waiting s changed newcosts) list accepted
        new (take s.links (front ++ drop s.links costs)) listed count
    apply_updated =
        let is : v ≡ accepted = update_verdict u ∙ apply_accepted in
        rw (take_at front (drop s.links costs) s.links front_long) (rw is at u)

    pub apply_beyond : drop s.links (front ++ drop s.links costs) ≡ drop s.links costs
    apply_beyond = drop_at front (drop s.links costs) s.links front_long
