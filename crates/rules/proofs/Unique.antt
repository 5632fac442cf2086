-- Two trees that fit one network have the same distances, and with one choice of parents they have the same rows.
-- Assumes nothing.
use mathlib.Core.Path.{◌≡◌, sym, ap, ◌∙◌}
use Prim.Native.Nat.{ℕ, ◌≤◌, ◌<◌}
use native.Mathlib.Omega.{arith}
use native.Mathlib.Nat.{le_antisymm}
use native.Mathlib.Decide.{ℕ_discrete}
use Rattle.rules.specs.Net.{Net, Legal}
use Rattle.rules.specs.Fit.{Rows, Reached, Tight, RootRow, Hung, Bare, Row, root, hung, bare, Fits}
use Rattle.rules.specs.Keep.{Choice, keeps, takes, Fresh, Next}
use Rattle.rules.proofs.Logic.{by_size}
use Rattle.rules.proofs.Sound.{no_longer, fits_shortest}

-- what one tree reaches the other reaches, no further away
module _ {N : Net} (L : Legal N) {r s : Rows} (R : Fits N r) (S : Fits N s) where
  pub reaches_too : (v : ℕ) → Reached N r v → Reached N s v × (s.dist v ≤ r.dist v)
  reaches_too v h =
      let short = fits_shortest L R in
      no_longer L S (short.least v h).walk (short.is_route v h)

module _ {N : Net} (L : Legal N) {r s : Rows} (R : Fits N r) (S : Fits N s) where
  pub same_dist : (v : ℕ) → r.dist v ≡ s.dist v
  same_dist v = at (ℕ_discrete (r.dist v) N.mark) (ℕ_discrete (s.dist v) N.mark)
    where
      at : Dec (r.dist v ≡ N.mark) → Dec (s.dist v ≡ N.mark) → r.dist v ≡ s.dist v
      at (yes a) (yes b) = a ∙ sym b
      at (yes a) (no b) = absurd ((reaches_too L S R v b).0 a)
      at (no a) (yes b) = absurd ((reaches_too L R S v a).0 b)
      at (no a) (no b) = le_antisymm (reaches_too L S R v b).1 (reaches_too L R S v a).1

  pub same_tight : {k v : ℕ} → Tight N r k v → Tight N s k v
  same_tight {k} {v} h = record {
    usable = h.usable;
    ends_at = h.ends_at;
    from_reached = λ e. h.from_reached (same_dist (N.start k) ∙ e);
    sum = omega (arith, same_dist v, same_dist (N.start k), h.sum);
  }

-- a node's rows in two trees that fit are of one kind
pub data Kinds (N : Net) (r s : Rows) (v : ℕ) : Type 0 where
  roots : RootRow N r v → RootRow N s v → Kinds N r s v
  hungs : Hung N r v → Hung N s v → Kinds N r s v
  bares : Bare N r v → Bare N s v → Kinds N r s v

module _ {N : Net} (L : Legal N) {r s : Rows} (R : Fits N r) (S : Fits N s) where
  pub kinds : (v : ℕ) → Kinds N r s v
  kinds v = at (same_dist L R S v) (R.row v) (S.row v)
    where
      at : r.dist v ≡ s.dist v → Row N r v → Row N s v → Kinds N r s v
      at e (root a) (root b) = roots a b
      at e (root a) (hung b) = absurd (b.not_root a.is_root)
      at e (root a) (bare b) = absurd (b.not_root a.is_root)
      at e (hung a) (root b) = absurd (a.not_root b.is_root)
      at e (hung a) (hung b) = hungs a b
      at e (hung a) (bare b) = absurd (a.reached (e ∙ b.unreached))
      at e (bare a) (root b) = absurd (a.not_root b.is_root)
      at e (bare a) (hung b) = absurd (b.reached (sym e ∙ a.unreached))
      at e (bare a) (bare b) = bares a b

module _ {N : Net} (L : Legal N) {old : ℕ → ℕ} {r s : Rows} (R : Next N r old) (S : Next N s old) where
  same_choice : {v : ℕ} → Choice N r old v → Choice N s old v → r.parent v ≡ s.parent v
  same_choice (keeps a p) (keeps b q) = p ∙ sym q
  same_choice (keeps a p) (takes b q) = absurd (b (same_tight L R.fits S.fits a))
  same_choice (takes a p) (keeps b q) = absurd (a (same_tight L S.fits R.fits b))
  same_choice {v} (takes a p) (takes b q) =
      le_antisymm
      (p.smallest (s.parent v) (same_tight L S.fits R.fits q.tight))
      (q.smallest (r.parent v) (same_tight L R.fits S.fits p.tight))

  pub same_parent : (v : ℕ) → r.parent v ≡ s.parent v
  same_parent v = at (kinds L R.fits S.fits v)
    where
      at : Kinds N r s v → r.parent v ≡ s.parent v
      at (roots a b) = cc
      at (hungs a b) = same_choice (R.choice v a) (S.choice v b)
      at (bares a b) = cc

  first_by_parent : {v : ℕ} → ((u : ℕ) → r.dist u < r.dist v → r.first u ≡ s.first u) → Hung N r v → Hung N s v
      → Dec (N.start (r.parent v) ≡ N.root) → r.first v ≡ s.first v
  first_by_parent {v} before a b (yes e) = a.near e ∙ same_parent v ∙ sym (b.near (rw (← same_parent v) e))
  first_by_parent {v} before a b (no n) =
      a.far n ∙ before (N.start (r.parent v)) (omega (arith, a.tight.sum, a.tight.usable.costs))
      ∙ ap (λ (k : ℕ). s.first (N.start k)) (same_parent v) ∙ sym (b.far (rw (← same_parent v) n))

  pub same_first : (v : ℕ) → r.first v ≡ s.first v
  same_first = by_size r.dist (λ v. r.first v ≡ s.first v) (λ v before. at v before (kinds L R.fits S.fits v))
    where
      at : (v : ℕ) → ((u : ℕ) → r.dist u < r.dist v → r.first u ≡ s.first u) → Kinds N r s v → r.first v ≡ s.first v
      at v before (roots a b) = cc
      at v before (hungs a b) = first_by_parent before a b (ℕ_discrete (N.start (r.parent v)) N.root)
      at v before (bares a b) = cc

-- a fresh build is an update of a tree that has no links
module _ {N : Net} (L : Legal N) {r : Rows} where
  pub fresh_next : Fresh N r → Next N r (λ v. N.none)
  fresh_next f = record {
    fits = f.fits;
    choice = λ v h. takes (λ a. omega (arith, a.usable.is_link, L.no_such_link)) (f.takes v h);
  }
