-- `usable::Table::some_leads` meets its contract. The invariant: none of the links passed leads there. Assumes nothing.
use Rattle.usable.specs.Standing.{table_at}
use Rattle.usable.proofs.Leads.{Passed}
use Rattle.usable.proofs.Table.some_leads.Given as goal

abbrev pub invariant-loop-k : goal.invariant-loop-k
invariant-loop-k l = Passed (table_at l.self) l.from l.to l.head l.k
