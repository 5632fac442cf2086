-- `each::judge_each` meets its contract. The loop's invariant is that the links before `link` are passed, with the first
-- fall among them. Each answer is what decides in Laws. Assumes nothing.
use mathlib.Core.Path.{sym, ◌∙◌}
use Rattle.rules.specs.Refusals.{wrong_ends_at}
use Rattle.each.proofs.Laws.{passed_none, passed_more, falls_here, keeps_here, ends_decide, order_decides, nothing_decides}
use Rattle.each.proofs.judge_each.Goals as goal
use Rattle.each.proofs.judge_each.Goals.{then-start-previous, else-start-previous}

pub loop-link-init : goal.loop-link-init
loop-link-init c = passed_none _

pub returns-then-wrong_ends : goal.returns-then-wrong_ends
unfolding wrong_ends_at
returns-then-wrong_ends c =
    ends_decide c.loop-link.invariant c.loop-link-test.true (sym c.wrong_ends.ensures ∙ c.if-wrong_ends.true)

pub loop-link-preserved : goal.loop-link-preserved
unfolding wrong_ends_at
loop-link-preserved c =
    let passed = c.loop-link.invariant in
    let link = c.loop-link-test.true in
    let right = sym c.wrong_ends.ensures ∙ c.if-wrong_ends.false in
    elim c.if-start-previous.branch [
      | then-start-previous w ↦ rw (w.fall-is, w.or-fall.ensures) (passed_more passed link right (falls_here passed link w.if-start-previous.true))
      | else-start-previous w ↦ rw w.fall-is (passed_more passed link right (keeps_here passed link w.if-start-previous.false))
    ]

pub returns-in-Some : goal.returns-in-Some
returns-in-Some c = order_decides c.loop-link-test.false (rw c.in-Some.is at c.loop-link.invariant)

pub returns-in-None : goal.returns-in-None
returns-in-None c = nothing_decides c.loop-link-test.false (rw c.in-None.is at c.loop-link.invariant)
