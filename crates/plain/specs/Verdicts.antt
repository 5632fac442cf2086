-- A job's outcome with its verdict in plain numbers, as other languages take it. Assumes nothing.
use Rattle.std.specs.Prelude.{◌≡◌, List, [], ◌∷◌, ℕ}
use Rattle.rules.specs.Refusals.{Verdict}
use Rattle.rules.specs.Answers.{number_in, value_in, second_in}

-- the outcome comes with a verdict, and number and values are that verdict's: all 0 for acceptance
pub record InNumbers (Outcome : Verdict → Type 0) (number : ℕ) (values : List ℕ) : Type 0 where
  pub verdict : Verdict
  pub number_is : number ≡ number_in verdict
  pub values_are : values ≡ value_in verdict ∷ second_in verdict ∷ []
  pub outcome : Outcome verdict
