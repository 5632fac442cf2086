-- A column of costs as a list, whatever its width, and two columns of which one is in use. Assumes nothing.
use Rattle.std.specs.Prelude.{◌≡◌, List, [], ◌∷◌, ℕ, length, set}
use Rattle.costs.specs.declared.Costs.{Costs}
use Rattle.costs.specs.declared.Costs.TheVariants.{Narrow, Wide}

abbrev pub costs_of : Costs → List ℕ
costs_of (Narrow column) = column.now
costs_of (Wide column) = column.now

-- of two columns the one in use: the wide one where it has places, else the narrow one
abbrev pub in_use : List ℕ → List ℕ → List ℕ
in_use narrow [] = narrow
in_use narrow (cost ∷ costs) = cost ∷ costs

-- the column in use has the cost at the place, and neither column changes its length
pub record Stored (narrow wide : List ℕ) (k cost : ℕ) (narrow' wide' : List ℕ) : Type 0 where
  pub costs : in_use narrow' wide' ≡ set (in_use narrow wide) k cost
  pub narrow_long : length narrow' ≡ length narrow
  pub wide_long : length wide' ≡ length wide
