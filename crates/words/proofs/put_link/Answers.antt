-- `words::put_link` meets its contract: a space, and behind it what the test for no link says. Assumes nothing.
use Rattle.words.proofs.Laws.{put_then, link_some}
use Rattle.words.proofs.put_link.Goals as goal

pub returns : goal.returns
returns c =
    rw (link_some c.if-link-eq-NO_LINK.false)
    (put_then c.put_byte-name.ensures c.put_number.ensures)
