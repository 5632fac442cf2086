-- What each C function hands back and writes: two results that keep its promise on one input are equal, number and
-- values among them. Assumes nothing.
use mathlib.Core.Path.{◌≡◌, sym, ap, ◌∙◌}
use mathlib.Core.List.{List, [], ◌∷◌}
use Prim.Native.Nat.{ℕ}
use Rattle.rules.specs.Columns.{Table, Arrays}
use Rattle.rules.specs.Refusals.{Verdict}
use Rattle.rules.specs.Answers.{number_in, value_in, second_in}
use Rattle.rules.specs.Jobs.{Built, Updated, Pathed}
use Rattle.rules.specs.declared.Change.{Change}
use Rattle.rules.proofs.OneOutcome.{built_once, updated_once, pathed_once}
use Rattle.stream.specs.declared.Read.{Read}
use Rattle.plain.specs.Verdicts.{InNumbers}
use Rattle.plain.specs.Readings.{HandedBack}

-- the same number and the same values
pub record SameTold (m n : ℕ) (x y : List ℕ) : Type 0 where
  pub number : m ≡ n
  pub values : x ≡ y

same_told : {A B : Verdict → Type 0} {m n : ℕ} {x y : List ℕ} (a : InNumbers A m x) (b : InNumbers B n y) → a.verdict ≡ b.verdict → SameTold m n x y
same_told a b e = record {
  number = a.number_is ∙ ap number_in e ∙ sym b.number_is;
  values = a.values_are ∙ ap (λ (v : Verdict). value_in v ∷ second_in v ∷ []) e ∙ sym b.values_are;
}

module _ {m n : ℕ} {x y : List ℕ} where
  -- `routes_judge_links`, `routes_judge_tree`
  pub judge_once : {v : Verdict} → InNumbers (λ w. w ≡ v) m x → InNumbers (λ w. w ≡ v) n y → SameTold m n x y
  judge_once a b = same_told a b (a.outcome ∙ sym b.outcome)

  -- `routes_build`
  pub build_once : {t : Table} {r s : Arrays} → InNumbers (λ v. Built t v r) m x → InNumbers (λ v. Built t v s) n y → SameTold m n x y × (r ≡ s)
  build_once a b = let same = built_once a.outcome b.outcome in (same_told a b same.verdict, same.tree)

  -- `routes_update`
  pub update_once : {t : Table} {old : Arrays} {batch : List Change} {list : List ℕ} {r s : Arrays} {c d k l : List ℕ} {i j : ℕ}
      → InNumbers (λ v. Updated t old batch list v r c k i) m x → InNumbers (λ v. Updated t old batch list v s d l j) n y
      → SameTold m n x y × (r ≡ s) × (c ≡ d) × (k ≡ l) × (i ≡ j)
  update_once a b =
      let same = updated_once a.outcome b.outcome in
      (same_told a b same.verdict, same.tree, same.costs, same.list, same.count)

  -- `routes_path`
  pub path_once : {t : Table} {tree : Arrays} {node : ℕ} {list k l : List ℕ} {i j : ℕ} → InNumbers (λ v. Pathed t tree node list v k i) m x
      → InNumbers (λ v. Pathed t tree node list v l j) n y → SameTold m n x y × (k ≡ l) × (i ≡ j)
  path_once a b =
      let same = pathed_once a.outcome b.outcome in
      (same_told a b same.verdict, same.list, same.count)

-- `routes_read`
pub read_once : {read : Read} {m n x y : ℕ} {k l : List ℕ} {p q : ℕ} → HandedBack read m x k p → HandedBack read n y l q
    → (m ≡ n) × (x ≡ y) × (k ≡ l) × (p ≡ q)
read_once a b = (
  a.number_told ∙ sym b.number_told,
  a.kind_told ∙ sym b.kind_told,
  a.numbers_told ∙ sym b.numbers_told,
  a.next_told ∙ sym b.next_told,
)
