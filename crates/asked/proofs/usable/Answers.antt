-- `asked::usable` meets its contract: the cost decides, and whether some link leads back. Assumes nothing.
use mathlib.Core.Path.{sym, ◌∙◌}
use Rattle.usable.specs.Standing.{net_at}
use Rattle.usable.proofs.Reading.{start_has_row, end_has_row}
use Rattle.usable.proofs.Asked.{not_usable, usable_by_lem}
use Rattle.asked.proofs.usable.Goals as goal

pub leads_back-requires : goal.leads_back-requires
leads_back-requires c =
    let net = c.args.net.now in
    let node = end_has_row net.table.proper c.requires.link in
    record { kept = c.requires.kept; start = start_has_row net.table.proper c.requires.link; end = node; head = rw c.end.ensures.end (net.heads.each _ node) }

pub returns-then-up-clause-usable : goal.returns-then-up-clause-usable
returns-then-up-clause-usable c = usable_by_lem (net_at c.args.net.now.table) c.args.k c.requires.link (sym c.up.ensures ∙ c.if-up.true) c.leads_back.ensures.leads

pub returns-else-up-clause-usable : goal.returns-else-up-clause-usable
returns-else-up-clause-usable c = c.if-up.false ∙ not_usable (net_at c.args.net.now.table) c.args.k (sym c.up.ensures ∙ c.if-up.false)
