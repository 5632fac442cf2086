-- A new queue keeps its invariant. Assumes nothing.
use Rattle.queue.proofs.Laws.{heaped_none}
use Rattle.queue.proofs.Queue.new.Goals as goal

pub invariant_of-result : goal.invariant_of-result
invariant_of-result c = heaped_none
