-- `gather::gather` meets its contract: a turn reads a row and stores its link and its cost (`Upto`), and what is read ends
-- where the batch does, or at one row more than a batch may have. Assumes nothing.
use Rattle.std.proofs.Common.{arith}
use Rattle.std.proofs.lemmas.List.{length-take}
use Rattle.rules.specs.declared.Change.{Change}
use Rattle.gather.proofs.Laws.{upto_none, upto_more, upto_all}
use Rattle.gather.proofs.gather.Goals as goal

pub loop-i-init : goal.loop-i-init
loop-i-init c = upto_none _

pub loop-i-preserved : goal.loop-i-preserved
loop-i-preserved c =
    rw (c.put.ensures.links, c.put.ensures.costs) (upto_more _ _ _ _ c.loop-i.invariant (omega (arith, length-take {A = Change})) c.loop-i-test.true)

pub returns : goal.returns
returns c = upto_all _ (omega (arith, c.min-count.ensures)) (omega arith) c.loop-i.invariant
