-- A node breaks a rule exactly where its row is wrong by itself or a link offers it less than it has. Assumes nothing.
use mathlib.Core.Path.{◌≡◌}
use mathlib.Core.Logic.{◌⊎◌, inl, inr, ◌≢◌}
use mathlib.Core.Bool.{Bool, true, false, ◌&&◌, ◌||◌, not, and-true, and-false, and_assoc, or-false}
use Prim.Native.Nat.{ℕ, ◌≤◌, ◌<◌}
use native.Mathlib.Omega.{arith}
use native.Mathlib.Decide.{dec_le, ℕ_discrete}
use lib.Dec.{T, not_T, eqb, ltb, leb, leb→le, le→leb}
use borrow.Author.Tests.{eq-eqb, ne_eqb}
use Rattle.rules.specs.Net.{Net}
use Rattle.rules.specs.Fit.{Rows}
use Rattle.rules.specs.Tests.{all, usable, reached, tight, offers, sum_by, first_link_by, root_row, hung_row, bare_row, breaks}
use Rattle.rules.proofs.Logic.{or_l, or_r, T_true, T_false, all_at, all_is}
use Rattle.alone.specs.Alone.{hung_by, hung_alone, row_alone}

last_first : (u a b c d : Bool) → (a && b && c && d && u) ≡ (u && a && b && c && d)
last_first true a b c d = and-true (a && b && c && d)
last_first false a b c d = and-false (a && b && c && d)

module _ (N : Net) (r : Rows) (v : ℕ) where
  abbrev offer : ℕ → Bool
  offer k = offers N r k v

  abbrev sum : ℕ → ℕ
  sum k = sum_by N r k

  -- no link offers an unreached node a route
  abbrev nothing_offers : Bool
  nothing_offers = all (λ k. not (offer k)) N.links

  -- none offers a reached node less
  abbrev none_less : Bool
  none_less = all (λ k. not (offer k) || leb (r.dist v) (sum k)) N.links

  -- whether the link is usable is asked last here, and first by the rule
  hung_by_is : (k : ℕ) → hung_by N r.dist r.first k v ≡ (tight N r k v && eqb (r.first v) (first_link_by N r k))
  unfolding hung_by tight reached
  hung_by_is k = last_first (usable N k) _ _ _ _

  hung_alone_is : hung_alone N r v
      ≡ (ltb v N.nodes && ltb (r.dist v) N.ceiling && tight N r (r.parent v) v && eqb (r.first v) (first_link_by N r (r.parent v)))
  unfolding hung_alone
  hung_alone_is = rw (hung_by_is (r.parent v)) (simp and_assoc)

  breaks_root : v ≡ N.root → breaks N r v ≡ not (row_alone N r v)
  unfolding breaks root_row hung_row bare_row row_alone
  breaks_root at_root = simp (eq-eqb v N.root at_root, and-false, or-false)

  breaks_bare : v ≢ N.root → r.dist v ≡ N.mark → breaks N r v ≡ not (row_alone N r v && nothing_offers)
  unfolding breaks root_row hung_row bare_row row_alone reached
  breaks_bare off_root far = simp (ne_eqb v N.root off_root, eq-eqb (r.dist v) N.mark far, and-false)

  breaks_hung : v ≢ N.root → r.dist v ≢ N.mark → breaks N r v ≡ not (row_alone N r v && none_less)
  unfolding breaks root_row hung_row bare_row row_alone reached
  breaks_hung off_root near = simp (ne_eqb v N.root off_root, ne_eqb (r.dist v) N.mark near, hung_alone_is, and-true, or-false)

  -- what holds of v by its kind
  by_kind : {b : Bool} → (v ≡ N.root → breaks N r v ≡ b)
      → (v ≢ N.root → r.dist v ≡ N.mark → breaks N r v ≡ b)
      → (v ≢ N.root → r.dist v ≢ N.mark → breaks N r v ≡ b)
      → breaks N r v ≡ b
  by_kind {b} root bare hung = at (ℕ_discrete v N.root) (ℕ_discrete (r.dist v) N.mark)
    where
      at : Dec (v ≡ N.root) → Dec (r.dist v ≡ N.mark) → breaks N r v ≡ b
      at (yes e) d = root e
      at (no n) (yes e) = bare n e
      at (no n) (no m) = hung n m

  -- a row that is wrong by itself
  pub bad_row : row_alone N r v ≡ false → breaks N r v ≡ true
  bad_row wrong =
      by_kind
      (λ e. rw (breaks_root e, wrong))
      (λ n e. rw (breaks_bare n e, wrong))
      (λ n m. rw (breaks_hung n m, wrong))

  -- link k offers v less than it has, or enters it though it is unreached
  pub record Less (k : ℕ) : Type 0 where
    pub is_link : k < N.links
    pub offered : offer k ≡ true
    pub more : (sum k < r.dist v) ⊎ (r.dist v ≡ N.mark)

  -- no link does, and the row is right by itself
  module _ (none : (k : ℕ) → Less k → ⊥) where
    none_offers : (k : ℕ) → k < N.links → (sum k < r.dist v) ⊎ (r.dist v ≡ N.mark) → T (not (offer k))
    none_offers k l more = not_T (offer k) (λ o. none k (record { is_link = l; offered = T_true (offer k) o; more = more }))

    no_offer : r.dist v ≡ N.mark → nothing_offers ≡ true
    no_offer far = T_true nothing_offers (all_is _ _ (λ k l. none_offers k l (inr far)))

    no_less : none_less ≡ true
    no_less = T_true none_less (all_is _ _ (λ k l. by k l (dec_le (r.dist v) (sum k))))
      where
        by : (k : ℕ) → k < N.links → Dec (r.dist v ≤ sum k) → T (not (offer k) || leb (r.dist v) (sum k))
        by k l (yes m) = or_r (not (offer k)) (leb (r.dist v) (sum k)) (le→leb (r.dist v) (sum k) m)
        by k l (no m) = or_l (not (offer k)) (leb (r.dist v) (sum k)) (none_offers k l (inl (omega arith)))

    pub right_row : row_alone N r v ≡ true → breaks N r v ≡ false
    right_row right =
        by_kind
        (λ e. rw (breaks_root e, right))
        (λ n e. rw (breaks_bare n e, right, no_offer e))
        (λ n m. rw (breaks_hung n m, right, no_less))

  -- one does
  module _ (mark_is_far : 0 < N.mark) {k : ℕ} (h : Less k) where
    some_offer : nothing_offers ≡ false
    some_offer = T_false nothing_offers (λ a. rw h.offered at (all_at _ _ a k h.is_link))

    some_less : r.dist v ≢ N.mark → none_less ≡ false
    some_less near = T_false none_less (λ a. by h.more (leb→le _ _ (rw h.offered at (all_at _ _ a k h.is_link))))
      where
        by : (sum k < r.dist v) ⊎ (r.dist v ≡ N.mark) → r.dist v ≤ sum k → ⊥
        by (inl less) m = omega arith
        by (inr far) m = near far

    -- whoever can be offered less has a distance over 0, which is wrong at the root
    far_root : v ≡ N.root → row_alone N r v ≡ false
    unfolding row_alone
    far_root at_root = rw (eq-eqb v N.root at_root, ne_eqb (r.dist v) 0 (by h.more))
      where
        by : (sum k < r.dist v) ⊎ (r.dist v ≡ N.mark) → r.dist v ≡ 0 → ⊥
        by (inl less) near = omega arith
        by (inr far) near = omega arith

    pub bad_offer : breaks N r v ≡ true
    bad_offer =
        by_kind
        (λ e. rw (breaks_root e, far_root e))
        (λ n e. rw (breaks_bare n e, some_offer, and-false))
        (λ n m. rw (breaks_hung n m, some_less m, and-false))
