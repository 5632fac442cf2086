-- `lift::note_start` meets its contract: only a link's start may hang by a link back over it. Assumes nothing.
use Rattle.lift.proofs.Notes.{start_free}
use Rattle.lift.proofs.note_start.Goals as goal

pub returns-else-leaves : goal.returns-else-leaves
returns-else-leaves c =
    start_free c.args.net.now.table c.requires.parents c.requires.link c.requires.lined (rw c.start-start.ensures.start at c.leaves.ensures) c.if-leaves.false
