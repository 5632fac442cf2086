-- `offer::Search::offer_less` meets its contract: a sum that is less and comes by a usable link is taken with the link, and
-- any other changes nothing. Assumes nothing.
use mathlib.Core.Path.{refl}
use Prim.Native.Nat.{◌<◌}
use native.Mathlib.Omega.{arith}
use lib.ListN.{length-set}
use Rattle.basics.proofs.Answers.{tells_usable}
use Rattle.usable.specs.Standing.{net_at}
use Rattle.offer.specs.Offer.{dist_at, left, taken, passed, written}
use Rattle.offer.proofs.Laws.{entry, below_mark, key_falls, lined_taken}
use Rattle.offer.proofs.Search.offer_less.Goals as goal

pub put-requires-clause-nearer : goal.put-requires-clause-nearer
put-requires-clause-nearer c = key_falls c.requires.ready.lined c.end-node.ensures.node c.if-sum-self.true

pub returns-then-up-clause-ready : goal.returns-then-up-clause-ready
returns-then-up-clause-ready c =
    record { lined = rw c.put.ensures (lined_taken c.requires.ready.lined c.end-node.ensures.node c.if-sum-self.true); found_long = rw length-set c.requires.ready.found_long; kept = c.usable-up.ensures.kept }

pub returns-then-up-clause-offered : goal.returns-then-up-clause-offered
returns-then-up-clause-offered c =
    let less : c.args.sum < dist_at (net_at c.args.net.now.table) c.args.self.now.dist c.end-node.result = omega (arith, c.if-sum-self.true, entry c.requires.ready.lined c.end-node.ensures.node) in
    rw (c.put.ensures, c.end-node.ensures.end) (taken ((tells_usable c.usable-up.ensures.usable).holds c.if-up.true) (rw c.end-node.ensures.end at less) refl refl)

pub returns-then-up-clause-noted : goal.returns-then-up-clause-noted
returns-then-up-clause-noted c =
    let less : c.args.sum < dist_at (net_at c.args.net.now.table) c.args.self.now.dist c.end-node.result = omega (arith, c.if-sum-self.true, entry c.requires.ready.lined c.end-node.ensures.node) in
    let less = rw c.end-node.ensures.end at less in
    rw c.end-node.ensures.end
    (written ((tells_usable c.usable-up.ensures.usable).holds c.if-up.true) (below_mark c.requires.ready.lined c.end-node.ensures.node c.if-sum-self.true) (omega arith) (λ e. absurd (omega arith)) refl)

pub returns-else-up-clause-offered : goal.returns-else-up-clause-offered
returns-else-up-clause-offered c = left (λ u. absurd ((tells_usable c.usable-up.ensures.usable).fails c.if-up.false u)) refl refl

pub returns-else-up-clause-noted : goal.returns-else-up-clause-noted
returns-else-up-clause-noted c = passed (λ u. absurd ((tells_usable c.usable-up.ensures.usable).fails c.if-up.false u)) refl
