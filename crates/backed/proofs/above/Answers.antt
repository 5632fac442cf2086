-- `backed::above` meets its contract. Assumes nothing.
use Rattle.std.proofs.Common.{arith}
use Rattle.std.proofs.lemmas.Grind.{common_steps}
use Rattle.std.proofs.lemmas.Option.{gets}
use Rattle.backed.proofs.above.Goals as goal
use Rattle.backed.specs.Backed.{above}

pub returns : goal.returns
unfolding above
returns c = grind (arith, common_steps, gets, c.get.ensures, c.copied.ensures, c.unwrap_or.ensures)
