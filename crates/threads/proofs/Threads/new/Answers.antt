-- `threads::Threads::new` meets its contract. Assumes nothing.
use Rattle.threads.proofs.Laws.{threaded_none}
use Rattle.threads.proofs.Threads.new.Goals as goal

pub returns : goal.returns
returns c = threaded_none
