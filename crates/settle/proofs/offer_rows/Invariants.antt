-- `settle::offer_rows` meets its contract. The invariant: every link is done that no row from the i-th on touches. Assumes
-- nothing.
use Rattle.usable.specs.Standing.{net_at}
use Rattle.offer.specs.Searching.{Ready}
use Rattle.afoot.specs.Afoot.{Untouched}
use Rattle.afoot.specs.Finding.{Heard}
use Rattle.settle.proofs.offer_rows.Given as goal

abbrev pub invariant-loop-i : goal.invariant-loop-i
invariant-loop-i l = record {
  ready : Ready l.net.table l.search;
  heard : Heard (net_at l.net.table) (Untouched (net_at l.net.table) l.changed 0) l.initial.search.dist l.initial.search.queue l.initial.search.found
      (Untouched (net_at l.net.table) l.changed l.i) l.search.dist l.search.queue l.search.found;
}
