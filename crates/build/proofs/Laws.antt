-- What the table's verdict says of the whole job. Assumes nothing.
use mathlib.Core.Path.{◌≡◌, refl, sym}
use Rattle.rules.specs.Columns.{Table, Arrays, narrow, empty_tree}
use Rattle.rules.specs.Refusals.{Verdict, accepted, refused, judge_links}
use Rattle.rules.specs.Jobs.{Built, built, not_built}
use Rattle.rules.specs.declared.Profile.{Profile}
use Rattle.grow.specs.Grown.{Grown}

pub build_refused : {t : Table} {v : Verdict} → v ≡ judge_links t → (v ≡ accepted → ⊥) → {tree : Arrays} → tree ≡ empty_tree → Built t v tree
build_refused {v = accepted} is n e = absurd (n refl)
build_refused {v = refused number values} is n e = rw e (not_built (sym is))

pub build_accepted : (t judged : Table) (p : Profile) → accepted ≡ judge_links t → p ≡ narrow → judged ≡ t
    → {tree : Arrays} → Grown p judged tree → Built t accepted tree
build_accepted t judged p is e same g = let grown = rw (e, same) at g in built (sym is) grown.whole grown.fresh
