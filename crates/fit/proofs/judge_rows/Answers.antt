-- `fit::judge_rows` meets its contract: a refusal of the links is the answer, and past them `judge_tree` decides.
-- Assumes nothing.
use mathlib.Core.Path.{sym}
use Rattle.std.proofs.lemmas.Result.{err_from_is_err_and}
use Rattle.rules.proofs.Judged.{links_proper}
use Rattle.fit.proofs.Smallest.{links_refuse, narrow_decides}
use Rattle.fit.proofs.judge_rows.Goals as goal

pub returns-in_err-judge_links : goal.returns-in_err-judge_links
returns-in_err-judge_links c =
    let p = err_from_is_err_and c.from_residual.result c.from_residual.ensures.1 in rw (p.1, p.2) (links_refuse _ _ _ c.in_err-judge_links.ensures)

pub judged-requires : goal.judged-requires
judged-requires c = links_proper _ (sym c.in_ok-judge_links.ensures)

pub returns : goal.returns
returns c = narrow_decides _ _ _ _ _ c.judged.ensures.profile c.judged.ensures.table c.judge_tree.ensures
