-- What judging accepts: a tree that fits an accepted table and no other, and a table whatever its costs. Assumes nothing.
use mathlib.Core.Path.{◌≡◌, ap, ◌∙◌}
use mathlib.Core.List.{List}
use Prim.Native.Nat.{ℕ}
use native.Mathlib.Omega.{arith}
use Rattle.rules.specs.Fit.{Fits}
use Rattle.rules.specs.Tests.{breaks}
use Rattle.rules.specs.Columns.{Table, Arrays, net_of, rows_of, most_nodes, after}
use Rattle.rules.specs.Refusals.{Verdict, accepted, ◌then◌, when_one, judge_links, judge_tree}
use Rattle.rules.specs.declared.Change.{Change}
use Rattle.rules.proofs.Logic.{T_false, T_true}
use Rattle.rules.proofs.Check.{breaks_rule}
use Rattle.rules.proofs.Search.{Seen, none_seen}
use Rattle.rules.proofs.Judged.{then_first}
use Rattle.rules.proofs.OneOutcome.{length_applied}

pub fits_accepted : (t : Table) (tree : Arrays) → judge_links t ≡ accepted → Fits (net_of t) (rows_of tree) → judge_tree t tree ≡ accepted
unfolding judge_tree
fits_accepted t tree e f = ap (λ (v : Verdict). v then when_one most_nodes (breaks (net_of t) (rows_of tree)) 6) e ∙ none_seen all 6 (omega arith) (omega arith)
  where
    all : Seen (breaks (net_of t) (rows_of tree)) most_nodes most_nodes most_nodes
    all = record {
      within = omega arith;
      before = λ v l m. T_false (breaks (net_of t) (rows_of tree) v) (λ b. breaks_rule (net_of t) (rows_of tree) v (T_true (breaks (net_of t) (rows_of tree) v) b) (f.row v));
      found = λ l. absurd (omega arith);
      passes = λ l. absurd (omega arith);
    }

-- costs don't matter to a table's verdict
pub after_accepted : (t : Table) (batch : List Change) → judge_links t ≡ accepted → judge_links (after t batch) ≡ accepted
unfolding judge_links
after_accepted t batch e = rw (length_applied batch t.costs) e

-- a tree is accepted over an accepted table alone
pub tree_table : (t : Table) (tree : Arrays) → judge_tree t tree ≡ accepted → judge_links t ≡ accepted
unfolding judge_tree
tree_table t tree e = then_first (judge_links t) _ e
