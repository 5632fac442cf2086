-- What a test's answer is worth. Assumes nothing.
use Rattle.std.specs.Prelude.{◌≡◌, Bool, true, false}

-- a test's answer tells whether a fact holds
pub record Tells (fact : Type 0) (answer : Bool) : Type 0 where
  pub holds : answer ≡ true → fact
  pub fails : answer ≡ false → ¬ fact
