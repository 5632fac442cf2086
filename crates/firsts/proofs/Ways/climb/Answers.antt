-- `firsts::Ways::climb` meets its contract. Assumes nothing.
use Rattle.firsts.proofs.Laws.{climbing_near, climbing_more, climbing_known}
use Rattle.firsts.proofs.Ways.climb.Goals as goal

pub returns-then-up-self : goal.returns-then-up-self
returns-then-up-self c = climbing_near c.args.self.now.rising c.loop-node.invariant c.start-up.ensures.start c.if-up-self.true

pub returns-then-known : goal.returns-then-known
returns-then-known c =
    climbing_known c.requires.known (climbing_more c.args.self.now.rising c.loop-node.invariant c.start-up.ensures.start c.if-up-self.false) c.start-up.ensures.node c.if-known.true

pub loop-node-preserved : goal.loop-node-preserved
loop-node-preserved c = climbing_more c.args.self.now.rising c.loop-node.invariant c.start-up.ensures.start c.if-up-self.false
