-- `grow::grow_level` meets its contract: the root is the seed, the loop settles the distances and finds the parents, and
-- a tree hung with no old links is fresh. Assumes nothing.
use mathlib.Core.List.{[]}
use Rattle.whole.proofs.Whole.{picked_rising, hanged}
use Rattle.grow.proofs.Laws.{hangable, grown}
use Rattle.grow.proofs.Seeds.{seeded_root, root_fresh}
use Rattle.grow.proofs.grow_level.Goals as goal

pub settle-requires-clause-ready : goal.settle-requires-clause-ready
settle-requires-clause-ready c = (seeded_root c.args.table.now c.requires c.new-search.ensures c.seed.ensures).ready

pub settle-requires-clause-afoot : goal.settle-requires-clause-afoot
settle-requires-clause-afoot c = (seeded_root c.args.table.now c.requires c.new-search.ensures c.seed.ensures).alone.afoot

pub renew_firsts-requires : goal.renew_firsts-requires
renew_firsts-requires c =
    let t = c.args.table.now in
    let fresh = root_fresh t c.requires c.new-search.ensures c.seed.ensures c.settle.ensures.settled c.settle.ensures.comes in
    picked_rising t.profile (hangable t.profile t.proper c.requires c.settle.ensures.settled) fresh []

pub returns : goal.returns
returns c =
    let t = c.args.table.now in
    let fresh = root_fresh t c.requires c.new-search.ensures c.seed.ensures c.settle.ensures.settled c.settle.ensures.comes in
    grown t.profile t.proper c.requires c.settle.ensures.settled (hanged t.profile (hangable t.profile t.proper c.requires c.settle.ensures.settled) fresh _ c.renew_firsts.ensures)
