-- `grow::offer_touched` meets its contract: links that no row touches are calm or lead to lifted nodes. Assumes nothing.
use Rattle.afoot.proofs.Offers.{partly_fewer}
use Rattle.grow.proofs.Laws.{heard_both}
use Rattle.grow.proofs.offer_touched.Goals as goal

pub offer_rows-requires-clause-partly : goal.offer_rows-requires-clause-partly
offer_rows-requires-clause-partly c = partly_fewer c.requires.apart.apart c.offer_into.ensures.heard.partly

pub returns-clause-heard : goal.returns-clause-heard
returns-clause-heard c = heard_both c.requires.apart c.offer_into.ensures.heard c.offer_rows.ensures.heard
