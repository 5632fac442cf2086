-- `build::build` meets its contract: the table's verdict decides between the empty tree and a grown one. Assumes nothing.
use mathlib.Core.Path.{sym, subst}
use native.Mathlib.Omega.{arith}
use Rattle.std.proofs.lemmas.Result.{err_from_is_err_and}
use Rattle.rules.proofs.Judged.{links_proper}
use Rattle.rules.proofs.OneOutcome.{refusal_refuses}
use Rattle.links.proofs.Laws.{judged_net}
use Rattle.level.specs.Level.{Ample}
use Rattle.level.proofs.Laws.{ample}
use Rattle.build.proofs.Laws.{build_refused, build_accepted}
use Rattle.build.proofs.build.Goals as goal

pub returns-in_err-judge_links : goal.returns-in_err-judge_links
returns-in_err-judge_links c =
    let p = err_from_is_err_and c.from_residual.result c.from_residual.ensures.1 in
    rw (p.1, p.2) (build_refused c.in_err-judge_links.ensures (refusal_refuses _) c.clear.ensures)

pub judged-requires : goal.judged-requires
judged-requires c = links_proper _ (sym c.in_ok-judge_links.ensures)

pub grow-requires : goal.grow-requires
grow-requires c =
    let net = judged_net _ _ _ c.judged.ensures.profile c.judged.ensures.table in
    subst Ample (sym net) (ample (links_proper _ (sym c.in_ok-judge_links.ensures)) (record { narrow = λ k. omega (arith, c.type_inv.costs k) }))

pub returns : goal.returns
returns c = build_accepted _ _ _ c.in_ok-judge_links.ensures c.judged.ensures.profile c.judged.ensures.table c.grow.ensures
