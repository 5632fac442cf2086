-- `keep::holds` meets its contract: where the sum is right, it depends on whether the link is usable. Assumes nothing.
use mathlib.Core.Path.{sym, ◌∙◌}
use native.Mathlib.Omega.{arith}
use Rattle.basics.proofs.Answers.{tells_usable}
use Rattle.keep.proofs.Laws.{holds_usable, holds_not}
use Rattle.keep.proofs.holds.Goals as goal

pub returns-then-exact : goal.returns-then-exact
returns-then-exact c =
    let table = c.args.net.now.table in
    holds_usable table.profile table.proper c.args.dist.now (omega arith) c.requires c.if-table-k.false c.start.ensures.start c.cost.ensures c.exact.ensures c.if-exact.true (sym c.end.ensures.end ∙ c.if-end-v.false) (tells_usable c.usable.ensures)

pub returns-else-exact : goal.returns-else-exact
returns-else-exact c =
    let table = c.args.net.now.table in
    rw c.if-exact.false (holds_not table.profile table.proper c.args.dist.now (omega arith) c.requires c.if-table-k.false c.start.ensures.start c.cost.ensures c.exact.ensures c.if-exact.false)
