-- `heads::first_links` meets its contract. The invariant: each node's first link among those from `k` on is stored. Assumes
-- nothing.
use Rattle.heads.proofs.Laws.{Stored}
use Rattle.heads.proofs.first_links.Given as goal

abbrev pub invariant-loop-k : goal.invariant-loop-k
invariant-loop-k l = Stored l.starts l.k l.at
