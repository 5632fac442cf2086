-- The rules of Fit.antt as tests that compute. Each passes exactly where its rule holds: proofs/Check.antt shows
-- it. Assumes nothing.
use Rattle.std.specs.Prelude.{Bool, true, false, ◌&&◌, ◌||◌, cond, ℕ, zero, suc, ◌+◌}
use Rattle.std.proofs.Math.Bool.{not}
use Rattle.std.proofs.Math.Dec.{eqb, ltb, leb}
use Rattle.rules.specs.Net.{Net}
use Rattle.rules.specs.Fit.{Rows}

-- each number below n passes
unfoldable pub all : (ℕ → Bool) → ℕ → Bool
all p zero = true
all p (suc n) = p n && all p n

-- some number below n passes
unfoldable pub some : (ℕ → Bool) → ℕ → Bool
some p zero = false
some p (suc n) = p n || some p n

-- the smallest number below n that passes, and n where none does
abbrev pub or_next : ℕ → Bool → ℕ → ℕ
or_next n passes found = cond (ltb found n) found (cond passes n (suc n))

unfoldable pub first_below : (ℕ → Bool) → ℕ → ℕ
first_below p zero = zero
first_below p (suc n) = or_next n (p n) (first_below p n)

module _ (N : Net) where
  unfoldable pub usable : ℕ → Bool
  usable k = ltb k N.links && ltb 0 (N.cost k) && N.is_open k

module _ (N : Net) (r : Rows) where
  unfoldable pub reached : ℕ → Bool
  reached v = not (eqb (r.dist v) N.mark)

  -- start's distance plus cost
  abbrev pub sum_by : ℕ → ℕ
  sum_by k = r.dist (N.start k) + N.cost k

  unfoldable pub tight : ℕ → ℕ → Bool
  unfolding usable reached
  tight k v = usable N k && eqb (N.end k) v && reached (N.start k) && eqb (sum_by k) (r.dist v)

  unfoldable pub offers : ℕ → ℕ → Bool
  unfolding usable reached
  offers k v = usable N k && eqb (N.end k) v && reached (N.start k) && ltb (sum_by k) N.ceiling

  unfoldable pub root_row : ℕ → Bool
  root_row v = eqb v N.root && eqb (r.dist v) 0 && eqb (r.parent v) N.none && eqb (r.first v) N.none

  unfoldable pub bare_row : ℕ → Bool
  unfolding offers all
  bare_row v =
      not (eqb v N.root) && eqb (r.dist v) N.mark && eqb (r.parent v) N.none && eqb (r.first v) N.none
      && all (λ k. not (offers k v)) N.links

  -- the first link of a node whose parent link is k
  abbrev pub first_link_by : ℕ → ℕ
  first_link_by k = cond (eqb (N.start k) N.root) k (r.first (N.start k))

  unfoldable pub hung_row : ℕ → Bool
  unfolding reached tight offers all
  hung_row v =
      ltb v N.nodes && not (eqb v N.root) && reached v && ltb (r.dist v) N.ceiling && tight (r.parent v) v
      && eqb (r.first v) (first_link_by (r.parent v)) && all (λ k. not (offers k v) || leb (r.dist v) (sum_by k)) N.links

  -- node v breaks a rule
  unfoldable pub breaks : ℕ → Bool
  unfolding root_row hung_row bare_row
  breaks v = not (root_row v || hung_row v || bare_row v)
