-- `firsts::Ways::firsts_stand` meets its contract. The loop's invariant is that the first links before `v` are right. Assumes
-- nothing.
use Rattle.firsts.specs.FirstLinks.{Standing}
use Rattle.firsts.proofs.Ways.firsts_stand.Given as goal

abbrev pub invariant-loop-v : goal.invariant-loop-v
invariant-loop-v l = Standing l.self.table.now.root l.self.table.now.starts.now l.self.parent.now l.v l.first
