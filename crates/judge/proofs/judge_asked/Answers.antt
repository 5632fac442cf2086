-- `judge::judge_asked` meets its contract: tree, node and its distance are asked in the order of their numbers.
-- Assumes nothing.
use mathlib.Core.Path.{sym, ◌∙◌}
use mathlib.Core.Bool.{true, false}
use native.Mathlib.Omega.{arith}
use Rattle.std.proofs.lemmas.Bool.{eq-eqb}
use borrow.Author.Tests.{ne_eqb}
use Rattle.std.proofs.lemmas.Result.{err_from_is_err_and}
use Rattle.rules.proofs.OneOutcome.{refusal_refuses, tree_links}
use Rattle.judge.proofs.Laws.{tree_refuses_asked, node_refuses, read_dist, unreached_decides}
use Rattle.judge.proofs.judge_asked.Goals as goal

pub returns-in_err-judge_rows : goal.returns-in_err-judge_rows
returns-in_err-judge_rows c =
    let p = err_from_is_err_and c.from_residual.result c.from_residual.ensures.1 in
    rw (p.1, p.2) (tree_refuses_asked _ _ _ c.in_err-judge_rows.ensures (refusal_refuses _))

pub returns-then-links-node : goal.returns-then-links-node
returns-then-links-node c = node_refuses _ _ _ (sym c.in_ok-judge_rows.ensures) c.if-links-node.true

pub offset_bounds-tree-node : goal.offset_bounds-tree-node
offset_bounds-tree-node c = omega (arith, (tree_links _ _ (sym c.in_ok-judge_rows.ensures)).few_nodes)

pub bounds-tree-node : goal.bounds-tree-node
bounds-tree-node c = omega (arith, (tree_links _ _ (sym c.in_ok-judge_rows.ensures)).few_nodes)

pub returns-then-tree-node-eq-UNREACHED : goal.returns-then-tree-node-eq-UNREACHED
returns-then-tree-node-eq-UNREACHED c =
    let read = read_dist _ _ c.args.node (sym c.in_ok-judge_rows.ensures) c.args.tree.now.whole c.if-links-node.false in
    unreached_decides _ _ _ (sym c.in_ok-judge_rows.ensures) c.if-links-node.false true (eq-eqb _ _ (read ∙ c.if-tree-node-eq-UNREACHED.true))

pub returns : goal.returns
returns c =
    let read = read_dist _ _ c.args.node (sym c.in_ok-judge_rows.ensures) c.args.tree.now.whole c.if-links-node.false in
    unreached_decides _ _ _ (sym c.in_ok-judge_rows.ensures) c.if-links-node.false false (ne_eqb _ _ (λ e. c.if-tree-node-eq-UNREACHED.false (sym read ∙ e)))
