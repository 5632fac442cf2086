-- `enter::judge_change` meets its contract: each test decides one of the four answers. Assumes nothing.
use Rattle.enter.proofs.Rows.{no_place, no_such_link, again, right_row}
use Rattle.enter.proofs.judge_change.Goals as goal

pub returns-then-place-ge256 : goal.returns-then-place-ge256
returns-then-place-ge256 c = no_place c.if-place-ge256.true

pub returns-then-links-link : goal.returns-then-links-link
returns-then-links-link c = no_such_link c.if-place-ge256.false c.if-links-link.true

pub returns-in-Some : goal.returns-in-Some
returns-in-Some c = again c.if-place-ge256.false c.if-links-link.false c.in-Some.ensures

pub returns : goal.returns
returns c = right_row c.if-place-ge256.false c.if-links-link.false c.in_default.ensures
