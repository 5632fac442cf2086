-- `asked::leads_back` meets its contract: what is kept is right, and what is found is kept. Assumes nothing.
use mathlib.Core.Path.{sym, ◌∙◌}
use mathlib.Core.Bool.{true, false}
use Rattle.asked.proofs.Laws.{kept_more}
use Rattle.asked.proofs.leads_back.Goals as goal

pub returns-then-last-kept-clause-leads : goal.returns-then-last-kept-clause-leads
returns-then-last-kept-clause-leads c = sym (c.requires.kept.right c.args.end c.args.start true c.requires.end c.requires.start (c.if-last-kept.true ∙ c.kept.ensures))

pub returns-then-last-kept-2-clause-leads : goal.returns-then-last-kept-2-clause-leads
returns-then-last-kept-2-clause-leads c = sym (c.requires.kept.right c.args.end c.args.start false c.requires.end c.requires.start (c.if-last-kept-2.true ∙ c.kept-2.ensures))

pub returns-clause-kept : goal.returns-clause-kept
returns-clause-kept c = kept_more c.args.end c.args.start c.some_leads-answer.result c.requires.kept c.requires.end c.some_leads-answer.ensures c.kept-3.ensures
