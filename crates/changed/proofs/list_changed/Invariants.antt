-- `changed::list_changed` meets its contract. The invariant: the nodes below `node` have been looked at. Assumes nothing.
use Rattle.rules.specs.Lent.{arrays_of}
use Rattle.changed.specs.Listed.{ListedBelow}
use Rattle.changed.proofs.list_changed.Given as goal

abbrev pub invariant-loop-node : goal.invariant-loop-node
invariant-loop-node l = ListedBelow (arrays_of l.old) (arrays_of l.new) l.node l.initial.list l.list l.count
