-- `offends::link_offends` meets its contract: what the link offers decides, and whether it is usable. Assumes nothing.
use mathlib.Core.Path.{◌∙◌}
use Rattle.offends.proofs.Laws.{offends_less, offends_not}
use Rattle.offends.proofs.link_offends.Goals as goal

pub returns-then-link_offers-clause-offends : goal.returns-then-link_offers-clause-offends
returns-then-link_offers-clause-offends c = offends_less _ _ c.args.bars.now c.args.k c.link_offers.ensures c.if-link_offers.true c.usable.ensures.usable

pub returns-else-link_offers-clause-offends : goal.returns-else-link_offers-clause-offends
returns-else-link_offers-clause-offends c = c.if-link_offers.false ∙ offends_not _ _ c.args.bars.now c.args.k c.link_offers.ensures c.if-link_offers.false
