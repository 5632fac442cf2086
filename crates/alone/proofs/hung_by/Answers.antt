-- `alone::hung_by` meets its contract: what is read of the link, of its start and of the node decides. Assumes nothing.
use mathlib.Core.Path.{sym, ◌∙◌}
use mathlib.Core.Bool.{true≢false}
use Rattle.alone.proofs.Laws.{hung_by_reads, usable_marked, tight_ends}
use Rattle.alone.proofs.hung_by.Goals as goal
use Rattle.alone.proofs.hung_by.Goals.{then-tight_by, else-tight_by}

pub returns-then-tree-v : goal.returns-then-tree-v
returns-then-tree-v c =
    let t = c.args.table.now in
    let reads = hung_by_reads t.proper c.requires.link t.profile c.args.tree.now.whole c.requires.node in
    let tight = rw (c.start-from.ensures.start, c.end.ensures.end, c.cost.ensures) at c.tight_by.ensures in
    elim c.if-tight_by.branch [
      | then-tight_by w ↦
          let first = rw c.start-from.ensures.start at w.first_by.ensures in
          let ends = tight_ends t.profile.mark c.args.v _ _ _ _ tight w.if-tight_by.true in
          rw (reads, ← tight, w.if-tight_by.true, ← first, ← w.value-is, c.if-tree-v.true)
          (c.usable_by.ensures ∙ usable_marked t.proper c.requires.link t.profile ends c.requires.marked)
      | else-tight_by w ↦ absurd (true≢false (sym c.if-tree-v.true ∙ w.value-is ∙ w.if-tight_by.false))
    ]

pub returns-else-tree-v : goal.returns-else-tree-v
returns-else-tree-v c =
    let t = c.args.table.now in
    let reads = hung_by_reads t.proper c.requires.link t.profile c.args.tree.now.whole c.requires.node in
    let tight = rw (c.start-from.ensures.start, c.end.ensures.end, c.cost.ensures) at c.tight_by.ensures in
    elim c.if-tight_by.branch [
      | then-tight_by w ↦
          let first = rw c.start-from.ensures.start at w.first_by.ensures in
          c.if-tree-v.false ∙ rw (reads, ← tight, w.if-tight_by.true, ← first, ← w.value-is, c.if-tree-v.false)
      | else-tight_by w ↦ c.if-tree-v.false ∙ rw (reads, ← tight, w.if-tight_by.false)
    ]
