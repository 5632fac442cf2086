-- `settle::offer_row` meets its contract. The invariant: the row's link is done, and each before `k` that leads back over
-- it. Assumes nothing.
use Rattle.usable.specs.Standing.{net_at}
use Rattle.offer.specs.Searching.{Ready}
use Rattle.afoot.specs.Finding.{Heard}
use Rattle.afoot.proofs.Heard.{BackTo}
use Rattle.settle.proofs.offer_row.Given as goal

abbrev pub invariant-loop-k : goal.invariant-loop-k
invariant-loop-k l = record {
  ready : Ready l.net.table l.search;
  heard : Heard (net_at l.net.table) (BackTo (net_at l.net.table) l.changed l.i l.initial.k) l.initial.search.dist l.initial.search.queue l.initial.search.found
      (BackTo (net_at l.net.table) l.changed l.i l.k) l.search.dist l.search.queue l.search.found;
}
