-- `offer::Search::seed` meets its contract: no key is above the empty one. Assumes nothing.
use native.Mathlib.Omega.{arith}
use lib.ListN.{get_or-replicate}
use Rattle.queue.specs.Queue.{empty}
use Rattle.offer.proofs.Search.seed.Goals as goal

pub put-requires-clause-nearer : goal.put-requires-clause-nearer
put-requires-clause-nearer c = rw c.requires.none (omega (arith, get_or-replicate 256 c.args.root empty 0 c.requires.root))
