-- `batch::judge_batch` meets its contract: the number of rows decides first, then the rows do. Assumes nothing.
use Rattle.batch.proofs.Laws.{too_many, not_too_many}
use Rattle.batch.proofs.judge_batch.Goals as goal

pub returns-then-len-gt256 : goal.returns-then-len-gt256
returns-then-len-gt256 c = too_many (rw (← c.len.ensures) c.if-len-gt256.true)

pub returns : goal.returns
returns c = not_too_many (rw (← c.len.ensures) c.if-len-gt256.false) c.judge_rows.ensures
