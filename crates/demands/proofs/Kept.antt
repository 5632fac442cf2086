-- Demand 3: no fitting tree keeps more nodes on their old link than the tree after an update, and a node leaves its
-- link only where no fitting tree could have kept it. Assumes nothing.
use mathlib.Core.Path.{◌≡◌, sym, ◌∙◌}
use mathlib.Core.Logic.{◌≢◌}
use mathlib.Core.Bool.{not}
use Prim.Native.Nat.{ℕ, ◌≤◌, ◌<◌}
use lib.Dec.{T, eqb, eqb→eq}
use Rattle.rules.specs.Net.{Net, Legal}
use Rattle.rules.specs.Fit.{Rows, Tight, Fits}
use Rattle.rules.specs.Keep.{Choice, keeps, takes, Next, kept, kept_count}
use Rattle.rules.proofs.Logic.{and, and_l, and_r, eq→eqb, neqb→ne, count_le}
use Rattle.rules.proofs.Unique.{same_tight, Kinds, roots, hungs, bares, kinds}

module _ {N : Net} (L : Legal N) {old : ℕ → ℕ} {r s : Rows} (R : Next N r old) (S : Fits N s) where
  held : {v : ℕ} → Tight N r (old v) v → Choice N r old v → r.parent v ≡ old v
  held a (keeps b q) = q
  held a (takes b q) = absurd (b a)

  -- node by node: what some fitting tree keeps, the next tree keeps
  pub keeps_each : (v : ℕ) → old v ≢ N.none → s.parent v ≡ old v → r.parent v ≡ old v
  keeps_each v o p = at (kinds L S R.fits v)
    where
      at : Kinds N s r v → r.parent v ≡ old v
      at (roots a b) = absurd (o (sym p ∙ a.no_parent))
      at (hungs a b) = held (same_tight L S R.fits (rw (← p) a.tight)) (R.choice v b)
      at (bares a b) = absurd (o (sym p ∙ a.no_parent))

  -- as the count
  pub keeps_most : kept_count N old s ≤ kept_count N old r
  unfolding kept_count kept
  keeps_most = count_le (kept N old s) (kept N old r) N.nodes at
    where
      at : (v : ℕ) → v < N.nodes → T (kept N old s v) → T (kept N old r v)
      at v l p =
          let stays = eqb→eq (s.parent v) (old v) (search and_l) in
          let link : T (not (eqb (old v) N.none)) = search (and_l, and_r) in
          let same = keeps_each v (neqb→ne (old v) N.none link) stays in
          search (and, eq→eqb)
