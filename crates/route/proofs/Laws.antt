-- What the parts' answers say of the whole job. Assumes nothing.
use mathlib.Core.Path.{◌≡◌, sym, ◌∙◌}
use mathlib.Core.List.{List}
use Prim.Native.Nat.{ℕ}
use Rattle.std.specs.Prelude.{Option, None, Some, ok_or}
use Rattle.rules.specs.Columns.{Table, Arrays, Whole}
use Rattle.rules.specs.Refusals.{Verdict, accepted, judge_asked}
use Rattle.rules.specs.Answers.{told, count_in}
use Rattle.rules.specs.Jobs.{Pathed, not_pathed}
use Rattle.rules.specs.declared.Refusal.TheVariants.{ListTooShort}
use Rattle.judge.proofs.Laws.{refusal}
use Rattle.path.specs.Climb.{Traces}
use Rattle.path.proofs.Paths.{parents_of, traces_pathed}

pub path_refused : {t : Table} {tree : Arrays} {node : ℕ} {list : List ℕ} {v : Verdict} → v ≡ judge_asked t tree node → (v ≡ accepted → ⊥)
    → Pathed t tree node list v list 0
path_refused {v = v} is n =
    let r = refusal v n in
    rw r.is (not_pathed (sym is ∙ r.is))

-- what is traced is the path, and where the list has no room for it, that is the refusal
pub path_told : (t : Table) (tree : Arrays) (node : ℕ) → Whole tree → judge_asked t tree node ≡ accepted → {list exit : List ℕ} (r : Option ℕ)
    → Traces (parents_of t tree) node list r exit → Pathed t tree node list (told (ok_or r ListTooShort)) exit (count_in (ok_or r ListTooShort))
path_told t tree node w e None h = traces_pathed t tree node w e h
path_told t tree node w e (Some n) h = traces_pathed t tree node w e h
