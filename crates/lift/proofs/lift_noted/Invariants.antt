-- `lift::lift_noted` meets its contract. The invariant: every node stands, and what was lifted is known. The measure is
-- how many are reached. Assumes nothing.
use mathlib.Core.Path.{◌≡◌}
use Rattle.usable.specs.Standing.{net_at}
use Rattle.lift.specs.Loose.{AllStand, Fates, reached_count}
use Rattle.lift.proofs.lift_noted.Given as goal

abbrev pub invariant-loop-u : goal.invariant-loop-u
invariant-loop-u l = record {
  stand : AllStand (net_at l.net.table) l.parent l.search.dist l.search.queue;
  fates : Fates (net_at l.net.table) l.initial.search.dist l.search.dist l.first;
  found : l.search.found ≡ l.initial.search.found;
  asked : l.search.asked ≡ l.initial.search.asked;
}

abbrev pub decreases-loop-u : goal.decreases-loop-u
decreases-loop-u l = reached_count (net_at l.net.table) l.search.dist
