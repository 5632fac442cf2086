-- `firsts::Ways::first_links` meets its contract. The loop's invariant is that the first links before `v` are known. Assumes nothing.
use Rattle.firsts.specs.FirstLinks.{FirstLinks}
use Rattle.firsts.proofs.Ways.first_links.Given as goal

abbrev pub invariant-loop-v : goal.invariant-loop-v
invariant-loop-v l = FirstLinks l.self.table.now.root l.self.table.now.starts.now l.self.parent.now l.v l.first
