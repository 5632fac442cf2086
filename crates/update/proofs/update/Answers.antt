-- `update::update` meets its contract: a refused batch leaves all as it came, an accepted one is applied. Assumes nothing.
use Rattle.std.proofs.lemmas.Result.{err_from_is_err_and}
use Rattle.rules.proofs.OneOutcome.{refusal_refuses}
use Rattle.update.proofs.Laws.{update_refused}
use Rattle.update.proofs.update.Goals as goal

pub returns-in_err-judge_update : goal.returns-in_err-judge_update
returns-in_err-judge_update c =
    let p = err_from_is_err_and c.from_residual.result c.from_residual.ensures.1 in
    rw (p.1, p.2) (update_refused c.in_err-judge_update.ensures (refusal_refuses _))
