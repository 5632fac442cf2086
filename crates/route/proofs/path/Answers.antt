-- `route::path` meets its contract: past the refusals the node's path is traced. Assumes nothing.
use mathlib.Core.Path.{sym}
use Rattle.std.proofs.lemmas.Result.{err_from_is_err_and}
use Rattle.rules.proofs.OneOutcome.{refusal_refuses}
use Rattle.path.proofs.Paths.{asked_climbable}
use Rattle.route.proofs.Laws.{path_refused, path_told}
use Rattle.route.proofs.path.Goals as goal

pub returns-in_err-judge_asked : goal.returns-in_err-judge_asked
returns-in_err-judge_asked c =
    let p = err_from_is_err_and c.from_residual.result c.from_residual.ensures.1 in
    rw (p.1, p.2) (path_refused c.in_err-judge_asked.ensures (refusal_refuses _))

pub trace-requires : goal.trace-requires
trace-requires c = asked_climbable _ _ c.args.node c.args.tree.now.whole (sym c.in_ok-judge_asked.ensures)

pub returns : goal.returns
returns c = rw c.ok_or.ensures.value (path_told _ _ c.args.node c.args.tree.now.whole (sym c.in_ok-judge_asked.ensures) _ c.trace.ensures)
