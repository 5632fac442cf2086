-- What each job hands back, as the code's own values: two results that keep the promise on one input are equal, as
-- whole structs, columns and lists. Assumes nothing.
use mathlib.Core.Path.{◌≡◌, sym, ap, ◌∙◌}
use mathlib.Core.List.{List}
use Prim.Native.Nat.{ℕ}
use Rattle.std.specs.Prelude.{Result, Ok, Err}
use Rattle.rules.specs.Columns.{Table, Arrays}
use Rattle.rules.specs.Refusals.{Verdict}
use Rattle.rules.specs.Answers.{Answer, refusal, told, count_in}
use Rattle.rules.specs.Jobs.{Built, Updated, Pathed}
use Rattle.rules.specs.declared.Change.{Change}
use Rattle.rules.specs.declared.Refusal.{Refusal}
use Rattle.rules.proofs.OneOutcome.{told_once, refusal_refuses, built_once, updated_once, pathed_once}
use Rattle.tree.specs.Value.{arrays_of}
use Rattle.tree.specs.declared.Tree.{Tree}
use Rattle.tree.specs.declared.FreshTree.{FreshTree}
use Rattle.tree.specs.declared.NextTree.{NextTree}

-- judging a table and judging a tree: `judge_links`, `Tree::judge`
pub answer_once : {v : Verdict} {a b : Answer} → told a ≡ v → told b ≡ v → a ≡ b
answer_once p q = told_once (p ∙ sym q)

-- an answer that counts: what it is told as and its count tell it
refused_once : {r s : Refusal} → refusal r ≡ refusal s → r ≡ s
refused_once {r} {s} e = ap at (told_once {a = Err r} {b = Err s} e)
  where
    at : Answer → Refusal
    at (Ok done) = r
    at (Err refused) = refused

counted_once : (a b : Result ℕ Refusal) → told a ≡ told b → count_in a ≡ count_in b → a ≡ b
counted_once (Ok m) (Ok n) e same = ap Ok same
counted_once (Ok m) (Err s) e same = absurd (refusal_refuses s (sym e))
counted_once (Err r) (Ok n) e same = absurd (refusal_refuses r e)
counted_once (Err r) (Err s) e same = ap Err (refused_once e)

same_value : {a b : Tree} → arrays_of a ≡ arrays_of b → a ≡ b
same_value e = λ i. record { dist = (e i).dist; parent = (e i).parent; first = (e i).first }

-- `Tree::empty`, `Tree::set_row`
pub tree_once : {value : Arrays} {a b : Tree} → arrays_of a ≡ value → arrays_of b ≡ value → a ≡ b
tree_once p q = same_value (p ∙ sym q)

-- `Tree::build`
pub fresh_tree_once : {t : Table} {r s : FreshTree} → Built t (told r.answer) (arrays_of r.tree) → Built t (told s.answer) (arrays_of s.tree) → r ≡ s
fresh_tree_once {r = r} {s} a b =
    let same = built_once a b in
    let answer : r.answer ≡ s.answer = told_once same.verdict in
    λ i. record { tree = same_value same.tree i; answer = answer i }

-- `Tree::update`, `Tree::update_columns`
pub next_tree_once : {t : Table} {old : Arrays} {batch : List Change} {list : List ℕ} {r s : NextTree} {c d l m : List ℕ}
    → Updated t old batch list (told r.answer) (arrays_of r.tree) c l (count_in r.answer)
    → Updated t old batch list (told s.answer) (arrays_of s.tree) d m (count_in s.answer)
    → (r ≡ s) × (c ≡ d) × (l ≡ m)
next_tree_once {r = r} {s} a b =
    let same = updated_once a b in
    let answer : r.answer ≡ s.answer = counted_once r.answer s.answer same.verdict same.count in
    (λ i. record { tree = same_value same.tree i; answer = answer i }, same.costs, same.list)

-- `Tree::path`
pub path_told_once : {t : Table} {tree : Arrays} {node : ℕ} {list : List ℕ} {r s : Result ℕ Refusal} {l m : List ℕ}
    → Pathed t tree node list (told r) l (count_in r) → Pathed t tree node list (told s) m (count_in s) → (r ≡ s) × (l ≡ m)
path_told_once {r = r} {s} a b =
    let same = pathed_once a b in
    (counted_once r s same.verdict same.count, same.list)
