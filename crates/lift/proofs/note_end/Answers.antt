-- `lift::note_end` meets its contract: only a link's end may hang by it. Assumes nothing.
use Rattle.lift.proofs.Notes.{orderly_at, end_asked, end_free}
use Rattle.lift.proofs.note_end.Goals as goal

pub returns-then-parent-end : goal.returns-then-parent-end
returns-then-parent-end c =
    end_asked (orderly_at c.args.net.now.table) c.requires.parents c.requires.link (rw c.end-end.ensures.end at c.note_if_loose.ensures)

pub returns-else-parent-end : goal.returns-else-parent-end
returns-else-parent-end c =
    end_free (orderly_at c.args.net.now.table) c.requires.parents c.requires.link c.requires.lined (rw c.end-end.ensures.end at c.if-parent-end.false)
