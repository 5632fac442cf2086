-- Each test of specs/Tests.antt passes exactly where its rule holds. Assumes nothing.
use mathlib.Core.Path.{◌≡◌, refl, sym, ◌∙◌}
use mathlib.Core.Logic.{◌⊎◌, inl, inr, ◌≢◌}
use mathlib.Core.Bool.{Bool, true, false, ◌||◌, not}
use Prim.Native.Nat.{ℕ, ◌≤◌}
use native.Mathlib.Decide.{ℕ_discrete}
use lib.Dec.{T, eqb, leb, eqb→eq, ltb→lt, leb→le, lt→ltb, le→leb, not_T, T_not}
use Rattle.rules.specs.Net.{Net, Usable}
use Rattle.rules.specs.Fit.{Rows, Reached, Tight, Offer, RootRow, Bare, Hung, Row, root, hung, bare}
use Rattle.rules.specs.Tests.{all, usable, reached, sum_by, tight, offers, root_row, bare_row, first_link_by, hung_row, breaks}
use Rattle.rules.proofs.Logic.{and, and_l, and_r, or_cases, or_l, or_r, eq→eqb, neqb→ne, ne→neqb, all_at, all_is, T_true, T_false, true_T, true_false}

module _ (N : Net) where
  pub usable_of : (k : ℕ) → T (usable N k) → Usable N k
  unfolding usable
  usable_of k q = search (and_l, and_r, ltb→lt, T_true)

  pub usable_is : (k : ℕ) → Usable N k → T (usable N k)
  unfolding usable
  usable_is k u = search (and, lt→ltb, true_T)

module _ (N : Net) (r : Rows) where
  pub reached_of : (v : ℕ) → T (reached N r v) → Reached N r v
  unfolding reached
  reached_of v q = neqb→ne (r.dist v) N.mark q

  pub reached_is : (v : ℕ) → Reached N r v → T (reached N r v)
  unfolding reached
  reached_is v h = ne→neqb (r.dist v) N.mark h

  pub tight_of : (k v : ℕ) → T (tight N r k v) → Tight N r k v
  unfolding tight
  tight_of k v q = search (and_l, and_r, eqb→eq, usable_of N, reached_of)

  pub tight_is : (k v : ℕ) → Tight N r k v → T (tight N r k v)
  unfolding tight
  tight_is k v h =
      let u = usable_is N k h.usable in
      let f = reached_is (N.start k) h.from_reached in
      search (and, eq→eqb)

  pub offers_of : (k v : ℕ) → T (offers N r k v) → Offer N r k v
  unfolding offers
  offers_of k v q = search (and_l, and_r, eqb→eq, ltb→lt, usable_of N, reached_of)

  pub offers_is : (k v : ℕ) → Offer N r k v → T (offers N r k v)
  unfolding offers
  offers_is k v h =
      let u = usable_is N k h.usable in
      let f = reached_is (N.start k) h.from_reached in
      search (and, eq→eqb, lt→ltb)

  root_of : (v : ℕ) → T (root_row N r v) → RootRow N r v
  unfolding root_row
  root_of v q = search (and_l, and_r, eqb→eq)

  root_is : (v : ℕ) → RootRow N r v → T (root_row N r v)
  unfolding root_row
  root_is v h = search (and, eq→eqb)

  no_offers : (v : ℕ) → T (all (λ k. not (offers N r k v)) N.links) → (k : ℕ) → Offer N r k v → ⊥
  no_offers v q k h = T_not (offers N r k v) (all_at (λ k. not (offers N r k v)) N.links q k h.usable.is_link) (offers_is k v h)

  bare_of : (v : ℕ) → T (bare_row N r v) → Bare N r v
  unfolding bare_row
  bare_of v q = record {
    not_root = neqb→ne v N.root (search (and_l, and_r));
    unreached = eqb→eq (r.dist v) N.mark (search (and_l, and_r));
    no_parent = eqb→eq (r.parent v) N.none (search (and_l, and_r));
    no_first = eqb→eq (r.first v) N.none (search (and_l, and_r));
    no_offer = no_offers v (search (and_l, and_r));
  }

  bare_is : (v : ℕ) → Bare N r v → T (bare_row N r v)
  unfolding bare_row
  bare_is v h =
      let n = ne→neqb v N.root h.not_root in
      let o = all_is (λ k. not (offers N r k v)) N.links (λ k l. not_T (offers N r k v) (λ q. h.no_offer k (offers_of k v q))) in
      search (and, eq→eqb)

  -- the first link by a parent link that starts at the root, and by one that doesn't
  near_is : (k : ℕ) → N.start k ≡ N.root → first_link_by N r k ≡ k
  near_is k e = rw (T_true (eqb (N.start k) N.root) (eq→eqb (N.start k) N.root e)) refl

  far_is : (k : ℕ) → N.start k ≢ N.root → first_link_by N r k ≡ r.first (N.start k)
  far_is k n = rw (T_false (eqb (N.start k) N.root) (λ s. n (eqb→eq (N.start k) N.root s))) refl

  first_is : (v : ℕ) → Hung N r v → r.first v ≡ first_link_by N r (r.parent v)
  first_is v h = at (ℕ_discrete (N.start (r.parent v)) N.root)
    where
      at : Dec (N.start (r.parent v) ≡ N.root) → r.first v ≡ first_link_by N r (r.parent v)
      at (yes e) = h.near e ∙ sym (near_is (r.parent v) e)
      at (no n) = h.far n ∙ sym (far_is (r.parent v) n)

  lessb : ℕ → ℕ → Bool
  lessb v k = not (offers N r k v) || leb (r.dist v) (sum_by N r k)

  less_of : (v : ℕ) → T (all (lessb v) N.links) → (k : ℕ) → Offer N r k v → r.dist v ≤ sum_by N r k
  unfolding lessb
  less_of v q k h = at (or_cases (not (offers N r k v)) (leb (r.dist v) (sum_by N r k)) (all_at (lessb v) N.links q k h.usable.is_link))
    where
      at : T (not (offers N r k v)) ⊎ T (leb (r.dist v) (sum_by N r k)) → r.dist v ≤ sum_by N r k
      at (inl n) = absurd (T_not (offers N r k v) n (offers_is k v h))
      at (inr l) = leb→le (r.dist v) (sum_by N r k) l

  less_is : (v : ℕ) → ((k : ℕ) → Offer N r k v → r.dist v ≤ sum_by N r k) → T (all (lessb v) N.links)
  unfolding lessb
  less_is v h = all_is (lessb v) N.links (λ k l. at k (offers N r k v) refl)
    where
      at : (k : ℕ) (b : Bool) → offers N r k v ≡ b → T (not b || leb (r.dist v) (sum_by N r k))
      at k true e = le→leb (r.dist v) (sum_by N r k) (h k (offers_of k v (rw e tt)))
      at k false e = tt

  pub hung_of : (v : ℕ) → T (hung_row N r v) → Hung N r v
  unfolding hung_row lessb
  hung_of v q =
      let first = eqb→eq (r.first v) (first_link_by N r (r.parent v)) (search (and_l, and_r) depth 9) in
      record {
        is_node = ltb→lt v N.nodes (search (and_l, and_r) depth 9);
        not_root = neqb→ne v N.root (search (and_l, and_r) depth 9);
        reached = reached_of v (search (and_l, and_r) depth 9);
        is_route = ltb→lt (r.dist v) N.ceiling (search (and_l, and_r) depth 9);
        tight = tight_of (r.parent v) v (search (and_l, and_r) depth 9);
        no_less = less_of v (search (and_l, and_r) depth 9);
        near = λ e. first ∙ near_is (r.parent v) e;
        far = λ n. first ∙ far_is (r.parent v) n;
      }

  pub hung_is : (v : ℕ) → Hung N r v → T (hung_row N r v)
  unfolding hung_row lessb
  hung_is v h =
      let n = ne→neqb v N.root h.not_root in
      let s = reached_is v h.reached in
      let a = tight_is (r.parent v) v h.tight in
      let f = first_is v h in
      let o = less_is v h.no_less in
      search (and, eq→eqb, lt→ltb) depth 9

  -- v passes: it breaks no rule
  keepsb : ℕ → Bool
  keepsb v = root_row N r v || hung_row N r v || bare_row N r v

  row_of : (v : ℕ) → T (keepsb v) → Row N r v
  unfolding keepsb
  row_of v q = outer (or_cases (root_row N r v || hung_row N r v) (bare_row N r v) q)
    where
      inner : T (root_row N r v) ⊎ T (hung_row N r v) → Row N r v
      inner (inl p) = root (root_of v p)
      inner (inr p) = hung (hung_of v p)

      outer : T (root_row N r v || hung_row N r v) ⊎ T (bare_row N r v) → Row N r v
      outer (inl p) = inner (or_cases (root_row N r v) (hung_row N r v) p)
      outer (inr p) = bare (bare_of v p)

  row_is : (v : ℕ) → Row N r v → T (keepsb v)
  unfolding keepsb
  row_is v (root h) = or_l (root_row N r v || hung_row N r v) (bare_row N r v) (or_l (root_row N r v) (hung_row N r v) (root_is v h))
  row_is v (hung h) = or_l (root_row N r v || hung_row N r v) (bare_row N r v) (or_r (root_row N r v) (hung_row N r v) (hung_is v h))
  row_is v (bare h) = or_r (root_row N r v || hung_row N r v) (bare_row N r v) (bare_is v h)

  -- a node breaks a rule exactly where the test says so
  pub keeps_rules : (v : ℕ) → breaks N r v ≡ false → Row N r v
  unfolding breaks keepsb
  keeps_rules v e = row_of v (at (keepsb v) e)
    where
      at : (b : Bool) → not b ≡ false → T b
      at true q = tt
      at false q = absurd (true_false q)

  pub breaks_rule : (v : ℕ) → breaks N r v ≡ true → Row N r v → ⊥
  unfolding breaks keepsb
  breaks_rule v e h = T_not (keepsb v) (rw e tt) (row_is v h)
