-- `carries::carries` meets its contract: where the sum is small enough it depends on whether the link is usable. Assumes
-- nothing.
use native.Mathlib.Omega.{arith}
use Rattle.basics.proofs.Answers.{tells_usable, tells_same}
use Rattle.usable.proofs.Reading.{read_row}
use Rattle.carries.proofs.carries.Goals as goal

pub returns-then-enough : goal.returns-then-enough
returns-then-enough c =
    let x = rw (c.start-from.ensures.start, c.cost.ensures) at (c.enough.ensures.holds c.if-enough.true) in
    let from = rw c.start-from.ensures.start at (read_row c.args.dist.now (omega arith) c.start-from.result c.args.net.now.table.profile.mark c.start-from.ensures.node) in
    let to = read_row c.args.dist.now (omega arith) c.args.v c.args.net.now.table.profile.mark c.requires in
    tells_same (λ u. record { usable = u; ends_at = omega arith; reached = omega arith; enough = omega arith }) (λ h. h.usable) (tells_usable c.usable.ensures)
