-- `enter::judge_link` meets its contract: each test decides one of the four answers. Assumes nothing.
use mathlib.Core.Path.{sym, ◌∙◌}
use native.Mathlib.Omega.{arith}
use Rattle.enter.proofs.Links.{no_place, bad_ends, wrong_order, right_link}
use Rattle.enter.proofs.judge_link.Goals as goal

pub returns-then-place-ge4096 : goal.returns-then-place-ge4096
returns-then-place-ge4096 c = no_place c.if-place-ge4096.true

pub returns-then-wrong_ends : goal.returns-then-wrong_ends
returns-then-wrong_ends c = bad_ends c.if-place-ge4096.false (sym c.wrong_ends.ensures ∙ c.if-wrong_ends.true)

pub returns-then-start-last_start : goal.returns-then-start-last_start
returns-then-start-last_start c =
    wrong_order c.if-place-ge4096.false (sym c.wrong_ends.ensures ∙ c.if-wrong_ends.false) (omega (arith, c.last_start.ensures, c.if-start-last_start.true))

pub returns : goal.returns
returns c =
    right_link c.if-place-ge4096.false (sym c.wrong_ends.ensures ∙ c.if-wrong_ends.false) (omega (arith, c.last_start.ensures, c.if-start-last_start.false))
