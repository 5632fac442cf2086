-- `usable::Net::usable` meets its contract: a link of the table is usable when its cost isn't 0 and some link leads back.
-- Assumes nothing.
use mathlib.Core.Path.{sym, ◌∙◌}
use Rattle.usable.specs.Standing.{net_at}
use Rattle.usable.proofs.Reading.{end_has_row}
use Rattle.usable.proofs.Asked.{not_usable, usable_by_lem}
use Rattle.usable.proofs.Net.usable.Goals as goal

pub some_leads-requires : goal.some_leads-requires
some_leads-requires c = let net = c.args.self.now in rw c.end.ensures.end (net.heads.each _ (end_has_row net.table.proper c.requires))

pub returns-then-up : goal.returns-then-up
returns-then-up c = usable_by_lem (net_at c.args.self.now.table) c.args.k c.requires (sym c.up.ensures ∙ c.if-up.true) c.some_leads.ensures

pub returns-else-up : goal.returns-else-up
returns-else-up c = c.if-up.false ∙ not_usable (net_at c.args.self.now.table) c.args.k (sym c.up.ensures ∙ c.if-up.false)
