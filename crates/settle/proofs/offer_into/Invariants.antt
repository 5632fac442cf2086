-- `settle::offer_into` meets its contract. The invariant: links that were calm are done, and those before `k` into nodes
-- without a first link. Assumes nothing.
use Rattle.usable.specs.Standing.{net_at}
use Rattle.offer.specs.Searching.{Ready}
use Rattle.afoot.specs.Afoot.{Calm}
use Rattle.afoot.specs.Finding.{Heard}
use Rattle.afoot.proofs.Heard.{Into}
use Rattle.settle.proofs.offer_into.Given as goal

abbrev pub invariant-loop-k : goal.invariant-loop-k
invariant-loop-k l = record {
  ready : Ready l.net.table l.search;
  heard : Heard (net_at l.net.table) (Calm (net_at l.net.table) l.initial.search.dist l.initial.search.queue) l.initial.search.dist l.initial.search.queue l.initial.search.found
      (Into (net_at l.net.table) l.initial.search.dist l.initial.search.queue l.first l.k) l.search.dist l.search.queue l.search.found;
}
