-- `usable::Table::some_leads` meets its contract. Assumes nothing.
use Rattle.usable.proofs.Leads.{passed_more, passed_all, passed_part, found}
use Rattle.usable.proofs.Table.some_leads.Goals as goal
use mathlib.Core.Path.{sym, ◌∙◌}
use native.Mathlib.Omega.{arith}

pub returns-then-self-k : goal.returns-then-self-k
returns-then-self-k c = passed_part c.requires c.loop-k.invariant c.args.self.now.proper c.loop-k-test.true c.if-self-k.true

pub returns-then-leads : goal.returns-then-leads
returns-then-leads c = found _ _ _ c.loop-k-test.true (sym c.leads.ensures ∙ c.if-leads.true)

pub loop-k-preserved : goal.loop-k-preserved
loop-k-preserved c = passed_more c.requires c.loop-k.invariant c.loop-k-test.true (sym c.leads.ensures ∙ c.if-leads.false)

pub returns : goal.returns
returns c = passed_all c.requires c.loop-k.invariant (omega arith)
