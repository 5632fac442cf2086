-- `costs::store` meets its contract: what is stored is the cost, and no other place changes. Assumes nothing.
use lib.Seq.{map-set}
use Rattle.costs.proofs.store.Goals as goal

pub returns : goal.returns
returns g c = rw (map-set, c.from_number.ensures)
