-- `judge::judge_update` meets its contract: tree, rows and list are asked in the order of their numbers. Assumes nothing.
use mathlib.Core.Path.{sym}
use Rattle.std.proofs.lemmas.Result.{err_from_is_err_and}
use Rattle.rules.proofs.OneOutcome.{refusal_refuses, tree_links}
use Rattle.batch.proofs.Batches.{batch_decides}
use Rattle.judge.proofs.Laws.{tree_refuses, batch_refuses, list_refuses, update_accepts}
use Rattle.judge.proofs.judge_update.Goals as goal

pub returns-in_err-judge_rows : goal.returns-in_err-judge_rows
returns-in_err-judge_rows c =
    let p = err_from_is_err_and c.from_residual.result c.from_residual.ensures.1 in
    rw (p.1, p.2) (tree_refuses _ _ _ _ c.in_err-judge_rows.ensures (refusal_refuses _))

pub judge_batch-requires : goal.judge_batch-requires
judge_batch-requires c = (tree_links _ _ (sym c.in_ok-judge_rows.ensures)).few_links

pub returns-in_err-judge_batch : goal.returns-in_err-judge_batch
returns-in_err-judge_batch c =
    let p = err_from_is_err_and c.from_residual-in_err-judge_batch.result c.from_residual-in_err-judge_batch.ensures.1 in
    rw (p.1, p.2) (batch_refuses _ _ _ _ (batch_decides _ _ c.in_err-judge_batch.ensures (sym c.in_ok-judge_rows.ensures)) (refusal_refuses _))

pub returns-then-list-links : goal.returns-then-list-links
returns-then-list-links c = list_refuses _ _ _ _ (sym (batch_decides _ _ c.in_ok-judge_batch.ensures (sym c.in_ok-judge_rows.ensures))) c.if-list-links.true

pub returns : goal.returns
returns c = update_accepts _ _ _ _ (sym (batch_decides _ _ c.in_ok-judge_batch.ensures (sym c.in_ok-judge_rows.ensures))) c.if-list-links.false
