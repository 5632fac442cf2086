-- `grow::reseed` meets its contract: what no row touches stands and offers nothing less, so that with the links into lifted
-- nodes and those that the rows touch every link is done. Assumes nothing.
use Rattle.grow.specs.Grown.{moves}
use Rattle.grow.proofs.Laws.{stand_apart, lifted_apart, lifted_long, reseeded}
use Rattle.grow.proofs.Seeds.{unused_ready, touched}
use Rattle.grow.proofs.reseed.Goals as goal

pub lift_rows-lifted-requires-clause-stand : goal.lift_rows-lifted-requires-clause-stand
lift_rows-lifted-requires-clause-stand c = rw c.requires.unused.queue (stand_apart c.args.net.now.table.profile c.requires.fitted c.requires.level)

pub offer_touched-requires-clause-ready : goal.offer_touched-requires-clause-ready
offer_touched-requires-clause-ready c =
    let lifted = c.lift_rows-lifted.ensures in
    unused_ready c.requires.unused lifted.found lifted.asked lifted.lifted.begun.lined

pub offer_touched-requires-clause-apart : goal.offer_touched-requires-clause-apart
offer_touched-requires-clause-apart c = lifted_apart c.args.net.now.table.profile c.requires.fitted c.requires.level c.lift_rows-lifted.ensures.rows

pub returns-then-lifted-clause-begun : goal.returns-then-lifted-clause-begun
returns-then-lifted-clause-begun c = touched c.args.net.now.table c.lift_rows-lifted.new.search c.offer_touched.new.search c.requires.unused c.lift_rows-lifted.ensures.found c.lift_rows-lifted.ensures.lifted c.offer_touched.ensures.heard

pub returns-then-lifted-clause-reseeded : goal.returns-then-lifted-clause-reseeded
returns-then-lifted-clause-reseeded c = rw c.if-lifted.true (moves (lifted_long c.lift_rows-lifted.ensures.rows c.requires.fitted.old.whole.first))

pub returns-else-lifted-clause-begun : goal.returns-else-lifted-clause-begun
returns-else-lifted-clause-begun c = touched c.args.net.now.table c.lift_rows-lifted.new.search c.offer_touched.new.search c.requires.unused c.lift_rows-lifted.ensures.found c.lift_rows-lifted.ensures.lifted c.offer_touched.ensures.heard

pub returns-else-lifted-clause-reseeded : goal.returns-else-lifted-clause-reseeded
returns-else-lifted-clause-reseeded c =
    let lifted = c.lift_rows-lifted.ensures in
    reseeded c.is_empty.result c.requires.level lifted.lifted lifted.rows c.if-lifted.false (lifted_long lifted.rows c.requires.fitted.old.whole.first) c.offer_touched.ensures.heard c.is_empty.ensures.0
