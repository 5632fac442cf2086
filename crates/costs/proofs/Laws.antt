-- Which of two columns is in use, and what a store in it is of the costs. Assumes nothing.
use mathlib.Core.Path.{◌≡◌, refl, sym, ◌∙◌}
use mathlib.Core.List.{List, [], ◌∷◌}
use Prim.Native.Nat.{ℕ}
use native.Mathlib.Omega.{arith}
use lib.ListN.{length, set, length-set}
use Rattle.costs.specs.Costs.{in_use, Stored}

pub narrow_read : (narrow wide : List ℕ) → length wide ≡ 0 → in_use narrow wide ≡ narrow
narrow_read narrow [] e = refl
narrow_read narrow (cost ∷ costs) e = absurd (omega arith)

pub wide_read : (narrow wide : List ℕ) → ¬ (length wide ≡ 0) → in_use narrow wide ≡ wide
wide_read narrow [] n = absurd (n refl)
wide_read narrow (cost ∷ costs) n = refl

pub narrow_stored : (narrow wide : List ℕ) (k cost : ℕ) → length wide ≡ 0 → Stored narrow wide k cost (set narrow k cost) wide
narrow_stored narrow wide k cost e = record {
  costs = rw (narrow_read narrow wide e, narrow_read (set narrow k cost) wide e);
  narrow_long = length-set narrow k cost;
  wide_long = refl;
}

pub wide_stored : (narrow wide : List ℕ) (k cost : ℕ) → ¬ (length wide ≡ 0) → Stored narrow wide k cost narrow (set wide k cost)
wide_stored narrow wide k cost n = record {
  costs = rw (wide_read narrow wide n, wide_read narrow (set wide k cost) (λ e. n (sym (length-set wide k cost) ∙ e)));
  narrow_long = refl;
  wide_long = length-set wide k cost;
}

-- ---- for callers with one column: the other is empty, and stays so

none_left : (xs : List ℕ) → length xs ≡ 0 → xs ≡ []
none_left [] e = refl
none_left (x ∷ xs) e = absurd (omega arith)

pub wide_alone : (costs : List ℕ) → in_use [] costs ≡ costs
wide_alone [] = refl
wide_alone (cost ∷ costs) = refl

module _ {costs costs' none : List ℕ} {k cost : ℕ} where
  pub narrow_store : Stored costs [] k cost costs' none → costs' ≡ set costs k cost
  narrow_store s = rw (narrow_read costs' none s.wide_long) at s.costs

  pub wide_store : Stored [] costs k cost none costs' → costs' ≡ set costs k cost
  wide_store s = rw (none_left none s.narrow_long, wide_alone costs, wide_alone costs') at s.costs
