-- One more answer is kept. Assumes nothing.
use mathlib.Core.Path.{◌≡◌, refl, sym, ◌∙◌}
use mathlib.Core.Logic.{◌≢◌}
use mathlib.Core.Bool.{Bool, true, false}
use mathlib.Core.List.{List}
use Prim.Native.Nat.{ℕ, ◌<◌}
use native.Mathlib.Omega.{arith}
use native.Mathlib.Decide.{ℕ_discrete}
use lib.ListN.{get_or, set, replicate, length-set, length-replicate, get_or-replicate}
use lib.Seq.{get_or-set_same, get_or-set_other}
use Rattle.rules.specs.Columns.{Table, most_nodes, no_link, some_leads}
use Rattle.asked.specs.Asked.{kept, Kept}

-- nothing is kept yet
pub kept_none : (t : Table) → Kept t (replicate 256 no_link)
kept_none t = record {
  long = length-replicate {A = ℕ} 256 no_link;
  right = λ from to answer l m e. absurd (none to answer m (sym (get_or-replicate {A = ℕ} 256 from no_link 0 l) ∙ e));
}
  where
    none : (to : ℕ) (answer : Bool) → to < most_nodes → no_link ≢ kept to answer
    none to true m = λ e. omega arith
    none to false m = λ e. omega arith

-- one number keeps one node and one answer
same_node : (to other : ℕ) (answer said : Bool) → kept to answer ≡ kept other said → to ≡ other
same_node to other true true e = omega arith
same_node to other true false e = absurd (omega arith)
same_node to other false true e = absurd (omega arith)
same_node to other false false e = omega arith

same_answer : (to other : ℕ) (answer said : Bool) → kept to answer ≡ kept other said → answer ≡ said
same_answer to other true true e = refl
same_answer to other true false e = absurd (omega arith)
same_answer to other false true e = absurd (omega arith)
same_answer to other false false e = refl

pub kept_more : {t : Table} {asked : List ℕ} {n : ℕ} (from to : ℕ) (answer : Bool) → Kept t asked → from < most_nodes → answer ≡ some_leads t from to
    → n ≡ kept to answer → Kept t (set asked from n)
kept_more {t} {asked} {n} from to answer h l e is = record {
  long = length-set asked from n ∙ h.long;
  right = λ u v said m w q. by u v said m w q (ℕ_discrete u from);
}
  where
    by : (u v : ℕ) (said : Bool) → u < most_nodes → v < most_nodes → get_or (set asked from n) u 0 ≡ kept v said → Dec (u ≡ from) → some_leads t u v ≡ said
    by u v said m w q (yes a) =
        let here : kept to answer ≡ kept v said = sym is ∙ sym (get_or-set_same asked from n 0 (omega (arith, h.long))) ∙ rw a at q in
        rw (a, ← same_node to v answer said here) (sym e ∙ same_answer to v answer said here)
    by u v said m w q (no d) = h.right u v said m w (sym (get_or-set_other asked from u n 0 d) ∙ q)
