-- `lines::put_again` meets its contract: the letter and the words, one behind another; before each there is room for what is
-- left of the line. Assumes nothing.
use Rattle.words.proofs.Laws.{put_then, room_front, room_rest}
use Rattle.lines.proofs.Laws.{again_room}
use Rattle.lines.proofs.put_again.Goals as goal

pub put_word-end-requires : goal.put_word-end-requires
put_word-end-requires c =
    let whole = again_room c.requires c.ranges.place c.ranges.earlier in
    room_front _ (room_rest c.put_byte-end.ensures _ whole)

pub put_word-end-requires-2 : goal.put_word-end-requires-2
put_word-end-requires-2 c =
    let whole = again_room c.requires c.ranges.place c.ranges.earlier in
    room_front _ (room_rest c.put_word-end.ensures _ (room_rest c.put_byte-end.ensures _ whole))

pub put_word-end-requires-3 : goal.put_word-end-requires-3
put_word-end-requires-3 c =
    let whole = again_room c.requires c.ranges.place c.ranges.earlier in
    room_front _
    (room_rest c.put_word-end-2.ensures _ (room_rest c.put_word-end.ensures _ (room_rest c.put_byte-end.ensures _ whole)))

pub put_byte-requires : goal.put_byte-requires
put_byte-requires c =
    let whole = again_room c.requires c.ranges.place c.ranges.earlier in
    room_rest c.put_word-end-3.ensures _
    (room_rest c.put_word-end-2.ensures _ (room_rest c.put_word-end.ensures _ (room_rest c.put_byte-end.ensures _ whole)))

pub returns : goal.returns
returns c =
    put_then c.put_byte-end.ensures
    (put_then c.put_word-end.ensures
    (put_then c.put_word-end-2.ensures (put_then c.put_word-end-3.ensures c.put_byte.ensures)))
