-- `lift::note_hung_on` meets its contract: a node that hangs on u by a link is that link's end. Assumes nothing.
use native.Mathlib.Omega.{arith}
use Rattle.lift.proofs.Notes.{orderly_at, noting_none, noting_all, noting_past, noting_free, noting_hung}
use Rattle.lift.proofs.note_hung_on.Goals.{then-link-k, else-link-k}
use Rattle.lift.proofs.note_hung_on.Goals as goal

pub loop-k-init : goal.loop-k-init
loop-k-init c =
    noting_none (orderly_at c.args.net.now.table) c.requires.rooted c.requires.first c.requires.stand

pub returns-then-start-u : goal.returns-then-start-u
returns-then-start-u c =
    noting_past (orderly_at c.args.net.now.table) c.requires.rooted c.requires.first c.loop-k.invariant c.loop-k-test.true (rw c.start.ensures.start at c.if-start-u.true)

pub loop-k-preserved : goal.loop-k-preserved
loop-k-preserved c =
    let o = orderly_at c.args.net.now.table in
    elim c.if-link-k.branch [
      | then-link-k w ↦ rw w.queue-is (noting_hung o c.requires.rooted c.requires.first c.loop-k.invariant c.loop-k-test.true (rw c.end-end.ensures.end at w.if-link-k.true) (rw c.end-end.ensures.end at w.note.ensures))
      | else-link-k w ↦ rw w.queue-is (noting_free o c.requires.rooted c.requires.first c.loop-k.invariant c.loop-k-test.true (rw c.end-end.ensures.end at w.if-link-k.false))
    ]

pub returns : goal.returns
returns c =
    noting_all (orderly_at c.args.net.now.table) c.requires.rooted c.requires.first c.loop-k.invariant (omega arith)
