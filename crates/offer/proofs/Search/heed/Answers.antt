-- `offer::Search::heed` meets its contract: an equal sum below the mark that comes by a smaller usable link lowers the link
-- found. Assumes nothing.
use mathlib.Core.Path.{refl}
use Prim.Native.Nat.{◌≤◌}
use native.Mathlib.Omega.{arith}
use Rattle.rules.specs.Columns.{no_link}
use Rattle.rules.proofs.Logic.{get_d_any}
use Rattle.basics.proofs.Answers.{tells_usable}
use Rattle.usable.specs.Standing.{net_at}
use Rattle.offer.specs.Offer.{dist_at, found_at, written}
use Rattle.offer.proofs.Laws.{entry}
use Rattle.offer.proofs.Search.heed.Goals as goal

pub returns-then-usable-clause-noted : goal.returns-then-usable-clause-noted
returns-then-usable-clause-noted c =
    let net = net_at c.args.net.now.table in
    let node = c.end-node.ensures.node in
    let level : c.args.sum ≤ dist_at net c.args.self.now.dist c.end-node.result = omega (arith, entry c.requires.ready.lined node) in
    let smaller : c.args.link ≤ found_at net c.args.self.now.found c.end-node.result = omega (arith, get_d_any c.args.self.now.found c.end-node.result 0 no_link (omega arith)) in
    rw c.end-node.ensures.end
    (written ((tells_usable c.usable.ensures.usable).holds c.if-usable.true) c.if-sum-net.true (rw c.end-node.ensures.end at level) (λ e. rw c.end-node.ensures.end at smaller) refl)

pub returns-else-usable-clause-lowered : goal.returns-else-usable-clause-lowered
returns-else-usable-clause-lowered c = record { lowered = λ u. absurd ((tells_usable c.usable.ensures.usable).fails c.if-usable.false u) }
