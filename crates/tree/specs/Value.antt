-- The struct's value as the tree of the rules, and what setting a row makes of it. Assumes nothing.
use Rattle.std.specs.Prelude.{cond, ℕ, ltb, set}
use Rattle.tree.specs.declared.Tree.{Tree}
use Rattle.rules.specs.Columns.{Arrays, arrays, most_nodes}

abbrev pub arrays_of : Tree → Arrays
arrays_of t = arrays t.dist t.parent t.first

-- a node that the tree has no row for changes nothing
abbrev pub with_row : Arrays → ℕ → ℕ → ℕ → ℕ → Arrays
with_row t node dist parent first =
    cond (ltb node most_nodes) (arrays (set t.dist node dist) (set t.parent node parent) (set t.first node first)) t
