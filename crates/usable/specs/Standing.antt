-- The table and the network that stand in lent columns. Assumes nothing.
use Rattle.std.specs.Prelude.{List, ℕ, get_or}
use Rattle.rules.specs.Net.{Net}
use Rattle.rules.specs.Columns.{table, net_in, no_link}
use Rattle.rules.specs.Columns as columns
use Rattle.rules.specs.declared.Profile.{Profile}
use Rattle.costs.specs.Costs.{costs_of}
use Rattle.usable.specs.declared.Table.{Table}

abbrev pub table_at : Table → columns.Table
table_at t = table t.nodes t.root t.starts.now t.ends.now (costs_of t.costs)

abbrev pub net_at : Table → Net
net_at t = net_in t.profile (table_at t)

-- the distances alone, and the first links
abbrev pub dist_in : Profile → List ℕ → ℕ → ℕ
dist_in p dist v = get_or dist v p.mark

abbrev pub first_in : List ℕ → ℕ → ℕ
first_in first v = get_or first v no_link
