-- `settle::offer_from` meets its contract. The invariant: the links that leave `u` are offered up to `k`, and what is known
-- of the links found goes on. Assumes nothing.
use mathlib.Core.Path.{◌≡◌}
use Prim.Native.Nat.{◌<◌}
use lib.ListN.{get_or}
use Rattle.usable.specs.Standing.{net_at}
use Rattle.offer.specs.Searching.{Ready}
use Rattle.afoot.specs.Afoot.{NotFrom, weight}
use Rattle.afoot.specs.Finding.{GoesOn}
use Rattle.afoot.proofs.Rounds.{Leaves}
use Rattle.settle.proofs.offer_from.Given as goal

abbrev pub invariant-loop-k : goal.invariant-loop-k
invariant-loop-k l = record {
  ready : Ready l.net.table l.search;
  leaves : Leaves (net_at l.net.table) l.u l.initial.k l.near (weight (net_at l.net.table) l.initial.search.dist l.initial.search.queue) l.k l.search.dist l.search.queue;
  goes_on : GoesOn (net_at l.net.table) (NotFrom (net_at l.net.table) l.u) l.initial.search.dist l.initial.search.queue l.initial.search.found (λ j. get_or l.net.table.starts.now j 0 ≡ l.u → j < l.k) l.search.dist l.search.queue l.search.found;
}
