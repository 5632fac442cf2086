-- What decides whether a link is usable. Assumes nothing.
use mathlib.Core.Path.{◌≡◌}
use mathlib.Core.Bool.{Bool, true, false, and-false}
use Prim.Native.Nat.{ℕ, ◌<◌}
use lib.Dec.{ltb}
use borrow.Author.Tests.{lt-ltb}
use Rattle.rules.specs.Net.{Net}
use Rattle.rules.specs.Tests.{usable}

module _ (N : Net) (k : ℕ) where
  pub not_usable : ltb 0 (N.cost k) ≡ false → false ≡ usable N k
  unfolding usable
  not_usable e = rw (e, and-false)

  pub usable_by_lem : k < N.links → ltb 0 (N.cost k) ≡ true → {b : Bool} → b ≡ N.is_open k → b ≡ usable N k
  unfolding usable
  usable_by_lem l up is = rw (lt-ltb k N.links l, up) is
