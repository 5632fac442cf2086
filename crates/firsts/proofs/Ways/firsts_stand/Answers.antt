-- `firsts::Ways::firsts_stand` meets its contract. Assumes nothing.
use native.Mathlib.Omega.{arith}
use Rattle.basics.proofs.Answers.{tells_no}
use Rattle.firsts.proofs.Laws.{standing_more, standing_not}
use Rattle.firsts.proofs.Ways.firsts_stand.Goals as goal

pub returns-then-first-v : goal.returns-then-first-v
returns-then-first-v c = tells_no (standing_not (omega arith) (omega arith) (omega arith) c.first_by.ensures c.if-first-v.true)

pub loop-v-preserved : goal.loop-v-preserved
loop-v-preserved c = standing_more (omega arith) (omega arith) (omega arith) c.first_by.ensures c.loop-v.invariant c.if-first-v.false
