-- A test's answer. Assumes nothing.
use mathlib.Core.Path.{◌≡◌, sym, ◌∙◌}
use mathlib.Core.Bool.{Bool, true, false}
use Prim.Native.Nat.{ℕ}
use Rattle.rules.specs.Net.{Net, Usable}
use Rattle.rules.specs.Tests.{usable}
use Rattle.rules.proofs.Logic.{true_T, false_T, true_false}
use Rattle.rules.proofs.Check.{usable_of, usable_is}
use Rattle.basics.specs.Tells.{Tells}

module _ {fact : Type 0} where
  pub tells_no : ¬ fact → Tells fact false
  tells_no f = record { holds = λ e. absurd (true_false (sym e)); fails = λ e. f }

  pub tells_yes : fact → Tells fact true
  tells_yes a = record { holds = λ e. a; fails = λ e. absurd (true_false e) }

-- the same fact in other words
pub tells_same : {fact other : Type 0} {answer : Bool} → (fact → other) → (other → fact) → Tells fact answer → Tells other answer
tells_same f g t = record { holds = λ e. f (t.holds e); fails = λ e b. t.fails e (g b) }

-- whether a link is usable
pub tells_usable : {N : Net} {k : ℕ} {answer : Bool} → answer ≡ usable N k → Tells (Usable N k) answer
tells_usable {N} {k} e = record {
  holds = λ a. usable_of N k (true_T (usable N k) (sym e ∙ a));
  fails = λ a u. false_T (usable N k) (sym e ∙ a) (usable_is N k u);
}
