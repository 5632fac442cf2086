-- `offends::link_offers` meets its contract: the bars of the link's ends decide. Assumes nothing.
use Rattle.offends.specs.Offends.{offers_by}
use Rattle.offends.proofs.link_offers.Goals as goal

pub returns : goal.returns
unfolding offers_by
returns c = rw (c.start.ensures.start, c.end.ensures.end, c.from.ensures, c.cost.ensures)
