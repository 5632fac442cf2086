-- `lines::put_changed` meets its contract: behind the letter and the count stands one entry for each turn; before each there
-- is room for what is left of the line. Assumes nothing.
use mathlib.Core.Path.{refl}
use native.Mathlib.Omega.{arith}
use Rattle.words.proofs.Laws.{put_then, room_front, room_rest}
use Rattle.lines.proofs.Laws.{nodes_room, listing_none, listing_more, listing_end}
use Rattle.lines.proofs.put_changed.Goals as goal

pub put_word-end-requires : goal.put_word-end-requires
put_word-end-requires c =
    let whole = nodes_room c.requires.room c.args.nodes.now c.requires.few (λ i. omega (arith, c.type_inv.nodes i)) in
    room_front _ (room_rest c.put_byte-letter.ensures _ whole)

pub loop-i-init : goal.loop-i-init
loop-i-init c =
    let whole = nodes_room c.requires.room c.args.nodes.now c.requires.few (λ i. omega (arith, c.type_inv.nodes i)) in
    let entries = room_rest c.put_word-end.ensures _ (room_rest c.put_byte-letter.ensures _ whole) in
    record { room = entries; listing = listing_none (omega (arith, entries.fits)) }

pub loop-i-preserved : goal.loop-i-preserved
loop-i-preserved c =
    let so_far = c.loop-i.invariant in
    record { room = so_far.room; listing = listing_more so_far.listing (omega arith) refl c.put_word-end-in-loop-i.ensures }

pub returns : goal.returns
returns c =
    let so_far = c.loop-i.invariant in
    put_then c.put_byte-letter.ensures
    (put_then c.put_word-end.ensures
    (listing_end so_far.listing (omega arith) c.put_byte.ensures))
