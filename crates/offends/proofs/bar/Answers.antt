-- `offends::bar` meets its contract, by its test. Assumes nothing.
use mathlib.Core.Path.{sym, ◌∙◌}
use Rattle.offends.proofs.Below.{bar_unreached, bar_reached}
use Rattle.offends.proofs.bar.Goals as goal

pub returns-then-dist-mark : goal.returns-then-dist-mark
returns-then-dist-mark c = let a = c.args in sym (bar_unreached a.mark a.ceiling a.dist c.if-dist-mark.true)

pub returns-else-dist-mark : goal.returns-else-dist-mark
returns-else-dist-mark c = let a = c.args in c.min.ensures ∙ rw c.from.ensures (bar_reached a.mark a.ceiling a.dist c.if-dist-mark.false)
