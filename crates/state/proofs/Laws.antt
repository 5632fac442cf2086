-- A node past the count has no row. Assumes nothing.
use mathlib.Core.Path.{◌≡◌, refl}
use Prim.Native.Nat.{ℕ, ◌≤◌}
use borrow.Author.Tests.{le-leb}
use Rattle.state.specs.declared.Out.TheVariants.{Refused}
use Rattle.state.specs.declared.State.{State}
use Rattle.state.specs.States.{asked}

pub asks_none : (s : State) (node : ℕ) → s.nodes ≤ node → Refused 10 ≡ asked s node
asks_none s node l = rw (le-leb s.nodes node l) refl
