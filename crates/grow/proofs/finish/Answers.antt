-- `grow::finish` meets its contract: the loop settles the distances, parents that are kept or found rise to the root, first
-- links by them are right, and all make the next tree. Assumes nothing.
use mathlib.Core.List.{[]}
use Rattle.whole.proofs.Whole.{picked_rising, hanged}
use Rattle.grow.proofs.Laws.{hangable, kept_picked, standing_links, regrown}
use Rattle.grow.proofs.finish.Goals as goal

pub keep_tight-requires : goal.keep_tight-requires
keep_tight-requires c =
    let table = c.args.net.now.table in
    standing_links table.profile table.proper c.requires.level c.settle.ensures.settled c.requires.begun c.settle.ensures.comes c.requires.rooted

pub renew_firsts-requires : goal.renew_firsts-requires
renew_firsts-requires c =
    let table = c.args.net.now.table in
    let settled = c.settle.ensures.settled in
    let picked = kept_picked table.profile table.proper c.requires.level settled c.requires.begun c.settle.ensures.comes c.keep_tight.ensures in
    picked_rising table.profile (hangable table.profile table.proper c.requires.level settled) picked []

pub returns : goal.returns
returns c =
    let table = c.args.net.now.table in
    let settled = c.settle.ensures.settled in
    let picked = kept_picked table.profile table.proper c.requires.level settled c.requires.begun c.settle.ensures.comes c.keep_tight.ensures in
    regrown table.profile table.proper c.requires.level settled (hanged table.profile (hangable table.profile table.proper c.requires.level settled) picked _ c.renew_firsts.ensures)
