-- Which tight link is a node's parent, after a fresh build and after an update; and how many nodes keep theirs.
-- Assumes nothing.
use Rattle.std.specs.Prelude.{◌≡◌, Bool, true, false, ◌&&◌, not, ℕ, zero, suc, ◌+◌, ◌≤◌, eqb}
use Rattle.rules.specs.Net.{Net}
use Rattle.rules.specs.Fit.{Rows, Tight, Hung, Fits}

module _ (N : Net) (r : Rows) where
  -- k is the tight link of smallest number into v
  pub record Smallest (v k : ℕ) : Type 0 where
    pub tight : Tight N r k v
    pub smallest : (j : ℕ) → Tight N r j v → k ≤ j

  -- a node whose old parent link is usable and tight keeps it; any other takes its tight link of smallest number
  pub data Choice (old : ℕ → ℕ) (v : ℕ) : Type 0 where
    keeps : Tight N r (old v) v → r.parent v ≡ old v → Choice old v
    takes : (Tight N r (old v) v → ⊥) → Smallest v (r.parent v) → Choice old v

  -- the tree of a fresh build: it fits, and every reached node but the root takes its smallest tight link
  pub record Fresh : Type 0 where
    pub fits : Fits N r
    pub takes : (v : ℕ) → Hung N r v → Smallest v (r.parent v)

  -- the tree after an update, where old gives each node's parent link before it
  pub record Next (old : ℕ → ℕ) : Type 0 where
    pub fits : Fits N r
    pub choice : (v : ℕ) → Hung N r v → Choice old v

-- how many numbers below n pass a test
abbrev pub one : Bool → ℕ
one true = 1
one false = 0

unfoldable pub count : (ℕ → Bool) → ℕ → ℕ
count p zero = 0
count p (suc n) = one (p n) + count p n

-- v is on the link that the old tree gave it
unfoldable pub kept : Net → (ℕ → ℕ) → Rows → ℕ → Bool
kept N old r v = eqb (r.parent v) (old v) && not (eqb (old v) N.none)

-- how many nodes are
unfoldable pub kept_count : Net → (ℕ → ℕ) → Rows → ℕ
unfolding kept count
kept_count N old r = count (kept N old r) N.nodes
