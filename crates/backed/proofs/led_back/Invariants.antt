-- `backed::led_back` meets its contract. The invariant: the links passed have marked their starts. Assumes nothing.
use Rattle.usable.specs.Standing.{table_at}
use Rattle.backed.proofs.Marks.{MarkedBy}
use Rattle.backed.proofs.led_back.Given as goal

abbrev pub invariant-loop-k : goal.invariant-loop-k
invariant-loop-k l = MarkedBy (table_at l.table) l.above l.k l.marks
