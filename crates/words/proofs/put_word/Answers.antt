-- `words::put_word` meets its contract: a space, and the number behind it. Assumes nothing.
use Rattle.words.proofs.Laws.{put_then}
use Rattle.words.proofs.put_word.Goals as goal

pub returns : goal.returns
returns c = put_then c.put_byte-word.ensures c.put_number.ensures
