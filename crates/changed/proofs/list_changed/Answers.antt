-- `changed::list_changed` meets its contract. The invariant: the nodes below `node` have been looked at. Assumes nothing.
use mathlib.Core.Path.{◌∙◌}
use native.Mathlib.Omega.{arith}
use Rattle.changed.proofs.Laws.{differs_by, count_few, listed_more, listed_same}
use Rattle.changed.proofs.list_changed.Goals as goal
use Rattle.changed.proofs.list_changed.Goals.{then-ne, else-ne}

pub loop-node-preserved : goal.loop-node-preserved
loop-node-preserved c =
    let looked = differs_by c.args.old.now.whole c.args.new.now.whole (omega (arith, c.loop-node-test.true)) c.row.ensures c.row-in-loop-node.ensures c.ne.ensures in
    elim c.if-ne.branch [
      | then-ne w ↦ rw (w.list-is, w.count-is) (listed_more c.loop-node.invariant (λ p. looked p ∙ w.if-ne.true) (omega (arith, count_few c.loop-node.invariant)))
      | else-ne w ↦ rw (w.list-is, w.count-is) (listed_same c.loop-node.invariant (λ p. looked p ∙ w.if-ne.false))
    ]
