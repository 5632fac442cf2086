-- `words::put_number` meets its contract: the last digit stands behind the digits of a tenth of the number. Assumes nothing.
use Rattle.std.proofs.Common.{[], ◌∷◌, ◌%◌, arith}
use Rattle.words.specs.Words.{digit}
use Rattle.words.proofs.Laws.{put_then, room_front, room_rest, one_digit, more_digits}
use Rattle.words.proofs.+put_number.Goals as goal

pub put_byte-requires : goal.put_byte-requires
put_byte-requires t c = rw c.digit.ensures (rw (one_digit c.args.n c.if-n-lt10.true) at c.requires)

pub returns-then-n-lt10 : goal.returns-then-n-lt10
returns-then-n-lt10 t c = rw (one_digit c.args.n c.if-n-lt10.true) (rw c.digit.ensures at c.put_byte.ensures)

pub put_number-last-requires : goal.put_number-last-requires
put_number-last-requires t c = (
  omega (arith, c.decreases, c.if-n-lt10.false),
  room_front (digit (c.args.n % 10) ∷ []) (rw (more_digits c.args.n c.if-n-lt10.false) at c.requires),
)

pub put_byte-requires-2 : goal.put_byte-requires-2
put_byte-requires-2 t c =
    rw c.digit-2.ensures
    (room_rest c.put_number-last.ensures (digit (c.args.n % 10) ∷ []) (rw (more_digits c.args.n c.if-n-lt10.false) at c.requires))

pub returns : goal.returns
returns t c =
    rw (more_digits c.args.n c.if-n-lt10.false)
    (put_then c.put_number-last.ensures (rw c.digit-2.ensures at c.put_byte-2.ensures))
