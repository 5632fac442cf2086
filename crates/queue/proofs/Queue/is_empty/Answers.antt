-- The queue is empty where the least key is the empty one. Assumes nothing.
use mathlib.Core.Path.{◌≡◌}
use mathlib.Core.Bool.{true}
use Rattle.std.specs.Prelude.{◌↔◌}
use lib.Dec.{eqb}
use Rattle.std.proofs.lemmas.Bool.{eq-eqb, eqb-true}
use Rattle.queue.specs.Queue.{empty, NoneWaits}
use Rattle.queue.proofs.Laws.{none_waits, all_wait_not}
use Rattle.queue.proofs.Queue.is_empty.Goals as goal

pub returns : goal.returns
returns c =
    let least = c.least_of_eight.ensures in
    let says : (eqb c.least_of_eight.result empty ≡ true) ↔ NoneWaits c.self.inside.keys = ((λ e. none_waits c.self.invariant least (eqb-true _ _ e)), (λ n. eq-eqb _ _ (all_wait_not c.self.invariant least n))) in
    rw c.self.view_is at says
