-- `firsts::Ways::spread` meets its contract. Assumes nothing.
use Rattle.firsts.proofs.Laws.{first_hangs, up_nearer, spreading_none, spreading_written, spreading_more}
use Rattle.firsts.proofs.Ways.spread.Goals as goal

pub loop-v-init : goal.loop-v-init
loop-v-init c = spreading_none c.args.self.now.rising c.requires.known c.requires.link

pub returns-then-v-self : goal.returns-then-v-self
returns-then-v-self c = spreading_written c.loop-v.invariant

pub loop-v-smaller : goal.loop-v-smaller
loop-v-smaller c = up_nearer c.args.self.now.rising (first_hangs c.loop-v.invariant.here) c.start-v.ensures.start

pub loop-v-preserved : goal.loop-v-preserved
loop-v-preserved c = spreading_more c.args.self.now.rising c.start-v.ensures.start c.loop-v.invariant c.if-v-self.false
