-- `firsts::renew_firsts` meets its contract: first links that came in are right where each is so by those above it, and else
-- none is known to begin with. Assumes nothing.
use native.Mathlib.Omega.{arith}
use Rattle.basics.proofs.Arrays.{leaving}
use Rattle.firsts.proofs.Laws.{known_none, standing_firsts}
use Rattle.firsts.proofs.renew_firsts.Goals as goal

pub returns-then-firsts_stand : goal.returns-then-firsts_stand
returns-then-firsts_stand c = standing_firsts c.requires (c.firsts_stand.ensures.holds c.if-firsts_stand.true) (leaving c.args.table.now.proper) (omega arith)

pub first_links-requires : goal.first_links-requires
first_links-requires c = known_none
