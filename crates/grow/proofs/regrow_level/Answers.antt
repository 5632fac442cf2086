-- `grow::regrow_level` meets its contract: where the loop has not to run, the old tree is the next one. Assumes nothing.
use Rattle.grow.proofs.Laws.{regrown_stopped}
use Rattle.grow.proofs.regrow_level.Goals.{then-reseed, else-reseed}
use Rattle.grow.proofs.regrow_level.Goals as goal

pub returns : goal.returns
returns c =
    let t = c.args.table.now in
    elim c.if-reseed.branch [
      | then-reseed w ↦ rw (w.search-is, w.parent-is, w.first-is) w.finish.ensures
      | else-reseed w ↦
          rw (w.search-is, w.parent-is, w.first-is) (regrown_stopped t.profile t.proper c.requires.level c.requires.fitted c.reseed.ensures.reseeded w.if-reseed.false)
    ]
