-- `session::apply` meets its contract: the update by the rows that wait is accepted. Assumes nothing.
use mathlib.Core.Path.{◌≡◌, refl, ◌∙◌}
use Rattle.rules.specs.Answers.{count_in}
use Rattle.session.proofs.Laws.{counted, apply_updated, apply_beyond}
use Rattle.session.proofs.apply.Goals as goal

pub returns : goal.returns
returns c =
    let job = c.update_columns-next in
    let counted : c.unwrap_or.result ≡ count_in job.result.answer = c.unwrap_or.ensures ∙ counted job.result.answer in
    rw (c.apply.ensures, counted) (record {
      count = count_in job.result.answer;
      kept = refl;
      updated = apply_updated c.requires.stands c.requires.lent job.ensures;
      beyond = apply_beyond c.requires.stands c.requires.lent job.ensures;
    })
