-- `settle::settle` meets its contract. The invariant: every link is done but those of waiting nodes, and what is known of
-- the links found goes on; the measure is the weight. Assumes nothing.
use Rattle.usable.specs.Standing.{net_at}
use Rattle.offer.specs.Searching.{Ready}
use Rattle.afoot.specs.Afoot.{Every, Afoot, weight}
use Rattle.afoot.specs.Finding.{GoesOn}
use Rattle.settle.proofs.settle.Given as goal

abbrev pub invariant-loop-u : goal.invariant-loop-u
invariant-loop-u l = record {
  ready : Ready l.net.table l.search;
  afoot : Afoot (net_at l.net.table) l.search.dist l.search.queue;
  goes_on : GoesOn (net_at l.net.table) Every l.initial.search.dist l.initial.search.queue l.initial.search.found Every l.search.dist l.search.queue l.search.found;
}

abbrev pub decreases-loop-u : goal.decreases-loop-u
decreases-loop-u l = weight (net_at l.net.table) l.search.dist l.search.queue
