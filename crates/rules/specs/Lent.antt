-- What is lent to a job: a table of links with a column of costs, and the three arrays of a tree. Assumes nothing.
use Rattle.std.specs.Prelude.{List, ℕ, get_or}
use Rattle.rules.specs.Columns.{Table, table, arrays}
use Rattle.rules.specs.Columns as columns
use Rattle.rules.specs.declared.Links.{Links}
use Rattle.rules.specs.declared.Arrays.{Arrays}
use Rattle.rules.specs.declared.Row.{Row}

abbrev pub table_of : Links → List ℕ → Table
table_of links costs = table links.nodes links.root links.starts.now links.ends.now costs

abbrev pub arrays_of : Arrays → columns.Arrays
arrays_of tree = arrays tree.dist.now tree.parent.now tree.first.now

-- a node's row
abbrev pub row_at : columns.Arrays → ℕ → Row
row_at t v = record { dist = get_or t.dist v 0; parent = get_or t.parent v 0; first = get_or t.first v 0 }
