-- The two loops that offer links before the loop proper: those into lifted nodes, and those of the rows. Assumes nothing.
use mathlib.Core.Path.{◌≡◌, refl, sym, ◌∙◌}
use mathlib.Core.Logic.{◌⊎◌, inl, inr, ◌≢◌}
use mathlib.Core.Bool.{Bool, true, false}
use mathlib.Core.List.{List}
use Prim.Native.Nat.{ℕ, ◌+◌, ◌≤◌, ◌<◌}
use native.Mathlib.Omega.{arith}
use native.Mathlib.Nat.{not-suc-le-zero}
use native.Mathlib.Decide.{ℕ_discrete}
use lib.ListN.{length, get_or}
use Rattle.rules.specs.Net.{Net, Usable}
use Rattle.rules.specs.Columns.{most_nodes}
use Rattle.rules.proofs.Logic.{true_false}
use Rattle.heads.specs.Heads.{Head}
use Rattle.offer.specs.Offer.{dist_at, found_at, Lined, Told, unheard, heard}
use Rattle.afoot.specs.Afoot.{Orderly, Back, Touches, Untouched, Seeded, Calm, Partly}
use Rattle.afoot.specs.Finding.{Yields, Finding, Heard, CalmOr}
use Rattle.afoot.proofs.Offers.{fell_none, fell_then, link_fell, partly_fewer, partly_more}
use Rattle.afoot.proofs.Finds.{on_none, on_fewer, on_more, on_then}
use Rattle.afoot.proofs.Rounds.{part_past}

-- ---- one link

module _ {N : Net} {done₀ done : ℕ → Type 0} {dist₀ keys₀ found₀ dist keys found : List ℕ}
    (h : Heard N done₀ dist₀ keys₀ found₀ done dist keys found) {done' : ℕ → Type 0} where
  pub heard_fewer : ((k : ℕ) → Usable N k → done' k → done k) → Heard N done₀ dist₀ keys₀ found₀ done' dist keys found
  heard_fewer f = record { partly = partly_fewer f h.partly; fell = h.fell; goes_on = on_fewer f h.goes_on }

  module _ {k : ℕ} (others : (j : ℕ) → done' j → j ≢ k → done j) where
    -- a link from an unreached node has nothing to offer
    heard_far : N.mark ≤ dist_at N dist (N.start k) → Lined N.mark dist keys
        → Heard N done₀ dist₀ keys₀ found₀ done' dist keys found
    heard_far far lined =
        record {
          partly = record {
            begun = record { lined = lined; root_zero = h.partly.begun.root_zero; walks = h.partly.begun.walks };
            calm = λ j u d. calm j u d (ℕ_discrete j k);
          };
          fell = h.fell;
          goes_on = record { long = h.goes_on.long; on = λ old f. on old (h.goes_on.on old f) };
        }
      where
        calm : (j : ℕ) → Usable N j → done' j → Dec (j ≡ k) → Calm N dist keys j
        calm j u d (yes e) = rw e (record { calm = λ rest near. absurd (omega arith) })
        calm j u d (no n) = h.partly.calm j u (others j d n)

        on : (old : List ℕ) → Finding N done old dist keys found → Finding N done' old dist keys found
        on old f = record { fell = f.fell; brings = f.brings; some = f.some; yields = λ j u d. yields j u d (ℕ_discrete j k) }
          where
            yields : (j : ℕ) → Usable N j → done' j → Dec (j ≡ k) → Yields N old dist keys found j
            yields j u d (yes e) = rw e (record { yields = λ rest near. absurd (omega arith) })
            yields j u d (no n) = f.yields j u (others j d n)

    -- link k is done too
    pub heard_more : Orderly N → k < N.links → {dist' keys' found' : List ℕ} → Lined N.mark dist' keys'
        → Told N k dist keys found dist' keys' found' → Heard N done₀ dist₀ keys₀ found₀ done' dist' keys' found'
    heard_more orderly link lined (unheard far d key f) = rw (d, key, f) (heard_far far (rw (d, key) at lined))
    heard_more orderly link lined (heard o n l) =
        record {
          partly = partly_more orderly h.partly link refl lined o others;
          fell = fell_then h.fell (link_fell orderly h.partly link refl lined o);
          goes_on = on_more orderly h.partly link refl lined o h.goes_on.long n h.goes_on others l;
        }

pub heard_none : {N : Net} {done : ℕ → Type 0} {dist keys found : List ℕ} → Partly N done dist keys → length found ≡ most_nodes
    → Heard N done dist keys found done dist keys found
heard_none p long = record { partly = p; fell = fell_none; goes_on = on_none long }

pub heard_then : {N : Net} {done₀ done done' : ℕ → Type 0} {dist₀ keys₀ found₀ dist keys found dist' keys' found' : List ℕ}
    → Heard N done₀ dist₀ keys₀ found₀ done dist keys found → Heard N done dist keys found done' dist' keys' found'
    → Heard N done₀ dist₀ keys₀ found₀ done' dist' keys' found'
heard_then a b = record { partly = b.partly; fell = fell_then a.fell b.fell; goes_on = on_then a.goes_on b.goes_on }

-- ---- the links into nodes without a first link

-- link j was calm, or leads to such a node and comes before link k
abbrev pub Into : Net → List ℕ → List ℕ → List ℕ → ℕ → ℕ → Type 0
Into N dist keys first k j = Calm N dist keys j ⊎ ((found_at N first (N.end j) ≡ N.none) × (j < k))

pub calm_none : {N : Net} {dist keys found : List ℕ} → Seeded N dist keys → length found ≡ most_nodes
    → Heard N (Calm N dist keys) dist keys found (Calm N dist keys) dist keys found
calm_none b long = heard_none (record { begun = b; calm = λ k u c. c }) long

module _ (N : Net) (dist keys first : List ℕ) where
  -- nothing was lifted
  pub calm_only : {lifted : Bool} → lifted ≡ false → (j : ℕ) → Usable N j → CalmOr N dist keys lifted first j → Calm N dist keys j
  calm_only e j u (inl c) = c
  calm_only e j u (inr f) = absurd (true_false (sym f.0 ∙ e))

  pub into_none : (j : ℕ) → Usable N j → Into N dist keys first 0 j → Calm N dist keys j
  into_none j u (inl c) = c
  into_none j u (inr f) = absurd (not-suc-le-zero f.1)

  pub into_more : (k j : ℕ) → Into N dist keys first (k + 1) j → j ≢ k → Into N dist keys first k j
  into_more k j (inl c) n = inl c
  into_more k j (inr f) n = inr (f.0, omega (arith, f.1))

  -- link k's end has a first link
  pub into_past : (k : ℕ) → found_at N first (N.end k) ≢ N.none → (j : ℕ) → Usable N j → Into N dist keys first (k + 1) j
      → Into N dist keys first k j
  into_past k some j u (inl c) = inl c
  into_past k some j u (inr f) = at (ℕ_discrete j k)
    where
      at : Dec (j ≡ k) → Into N dist keys first k j
      at (yes e) = absurd (some (rw e at f.0))
      at (no n) = inr (f.0, omega (arith, f.1))

  pub into_all : (k : ℕ) {lifted : Bool} → N.links ≤ k → (j : ℕ) → Usable N j → CalmOr N dist keys lifted first j
      → Into N dist keys first k j
  into_all k past j u (inl c) = inl c
  into_all k past j u (inr f) = inr (f.1, omega (arith, u.is_link))

-- ---- the links of the rows

module _ (N : Net) (rows : List ℕ) (i : ℕ) where
  pub untouched_more : (j : ℕ) → Untouched N rows (i + 1) j → ¬ (Touches N (get_or rows i 0) j) → Untouched N rows i j
  untouched_more j apart n m a l e = at (ℕ_discrete m i)
    where
      at : Dec (m ≡ i) → ⊥
      at (yes q) = n (rw q at e)
      at (no d) = apart m (omega arith) l e

  pub untouched_all : length rows ≤ i → (j : ℕ) → Untouched N rows i j
  untouched_all past j m a l e = omega arith

-- of the links that the i-th row touches, its own is done and those before k that lead back over it
abbrev pub BackTo : Net → List ℕ → ℕ → ℕ → ℕ → Type 0
BackTo N rows i k j = Untouched N rows (i + 1) j × (Back N (get_or rows i 0) j → j < k)

module _ (N : Net) (rows : List ℕ) (i : ℕ) where
  pub back_more : (k j : ℕ) → BackTo N rows i (k + 1) j → j ≢ k → BackTo N rows i k j
  back_more k j b n = (b.0, λ back. omega (arith, b.1 back))

  -- link k doesn't lead back
  pub back_past : (k : ℕ) → N.end k ≢ N.start (get_or rows i 0) → (j : ℕ) → Usable N j → BackTo N rows i (k + 1) j → BackTo N rows i k j
  back_past k other j u b = (b.0, λ back. at back (ℕ_discrete j k))
    where
      at : Back N (get_or rows i 0) j → Dec (j ≡ k) → j < k
      at back (yes e) = absurd (other (rw e at back.to))
      at back (no n) = omega (arith, b.1 back)

  module _ {head : ℕ} (f : Head N.links N.start (N.end (get_or rows i 0)) head) where
    -- its own link is done
    pub back_none : (j : ℕ) → BackTo N rows i head j → j ≢ get_or rows i 0 → Untouched N rows i j
    back_none j b n = untouched_more N rows i j b.0 touches
      where
        touches : Touches N (get_or rows i 0) j → ⊥
        touches (inl e) = n (sym e)
        touches (inr back) = f.before j (b.1 back) back.from

    -- no link from k on leaves the end
    pub back_all : Orderly N → {k : ℕ} → head ≤ k → (k < N.links → N.start k ≢ N.end (get_or rows i 0)) → (j : ℕ) → Usable N j
        → Untouched N rows (i + 1) j → BackTo N rows i k j
    back_all orderly begins past j u apart = (apart, λ back. part_past orderly f begins past j u.is_link back.from)
