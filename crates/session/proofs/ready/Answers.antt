-- `session::ready` meets its contract: the phase says whether the tree is still to be built. Assumes nothing.
use mathlib.Core.Path.{sym, ◌∙◌}
use Rattle.session.specs.Steps.{begins, stays}
use Rattle.session.proofs.Keeps.{linking_same, is_linking_lem, is_routing, table_of_lem, tree_of, begun_stands}
use Rattle.session.proofs.ready.Goals as goal

pub returns-then-eq : goal.returns-then-eq
returns-then-eq c =
    let phase = is_linking_lem _ (sym (linking_same _) ∙ sym c.eq.ensures ∙ c.if-eq.true) in
    record { ready = begins phase c.begin.ensures; stands = begun_stands (table_of_lem c.requires.holds phase) c.begin.ensures }

pub returns : goal.returns
returns c =
    let phase = is_routing _ c.requires.read (sym (linking_same _) ∙ sym c.eq.ensures ∙ c.if-eq.false) in
    record { ready = stays phase; stands = tree_of c.requires.holds phase }
