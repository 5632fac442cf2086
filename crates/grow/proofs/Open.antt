-- Where the costs of some links are others, a link that none of them touches is what it was. Assumes nothing.
use mathlib.Core.Path.{◌≡◌, refl, sym, ◌∙◌}
use mathlib.Core.Logic.{inl, inr, ◌≢◌}
use mathlib.Core.Bool.{Bool}
use mathlib.Core.List.{List}
use Prim.Native.Nat.{ℕ, zero, suc, ◌<◌}
use native.Mathlib.Omega.{arith}
use native.Mathlib.Decide.{ℕ_discrete}
use lib.ListN.{length, get_or}
use Rattle.rules.specs.Net.{Net}
use Rattle.rules.specs.Tests.{some}
use Rattle.rules.specs.Columns.{Table, net_in, leads, some_leads, with_costs}
use Rattle.rules.specs.declared.Profile.{Profile}
use Rattle.usable.proofs.Leads.{leaves_not, ends_not}
use Rattle.afoot.specs.Afoot.{Back, Untouched}

-- link k is in one network what it is in another
pub record Alike (M N : Net) (k : ℕ) : Type 0 where
  pub cost : M.cost k ≡ N.cost k
  pub is_open : M.is_open k ≡ N.is_open k

some_same : (p q : ℕ → Bool) (n : ℕ) → ((j : ℕ) → j < n → p j ≡ q j) → some p n ≡ some q n
unfolding some
some_same p q zero same = refl
some_same p q (suc n) same = rw (same n (omega arith), some_same p q n (λ j l. same j (omega arith)))

module _ (t : Table) (costs rows : List ℕ) (same : (k : ℕ) → ((m : ℕ) → m < length rows → get_or rows m 0 ≢ k) → get_or costs k 0 ≡ get_or t.costs k 0) where
  -- where no row names a link from one node to another
  leads_same : (from to : ℕ) → ((j : ℕ) → get_or t.starts j 0 ≡ from → get_or t.ends j 0 ≡ to → (m : ℕ) → m < length rows → get_or rows m 0 ≢ j)
      → (j : ℕ) → leads (with_costs t costs) from to j ≡ leads t from to j
  leads_same from to unnamed j = at (ℕ_discrete (get_or t.starts j 0) from) (ℕ_discrete (get_or t.ends j 0) to)
    where
      at : Dec (get_or t.starts j 0 ≡ from) → Dec (get_or t.ends j 0 ≡ to) → leads (with_costs t costs) from to j ≡ leads t from to j
      at (no n) d = leaves_not (with_costs t costs) from to j n ∙ sym (leaves_not t from to j n)
      at (yes e) (no n) = ends_not (with_costs t costs) from to j n ∙ sym (ends_not t from to j n)
      at (yes e) (yes q) = rw (same j (unnamed j e q))

  -- a row that names a link back touches the link
  pub alike : (p : Profile) (k : ℕ) → Untouched (net_in p t) rows 0 k → Alike (net_in p (with_costs t costs)) (net_in p t) k
  unfolding some_leads
  alike p k apart =
      record {
        cost = same k (λ m l e. apart m (omega arith) l (inl e));
        is_open = some_same _ _ (length t.starts) (λ j l. leads_same (get_or t.ends k 0) (get_or t.starts k 0) unnamed j);
      }
    where
      back : {i j : ℕ} → get_or t.starts j 0 ≡ get_or t.ends k 0 → get_or t.ends j 0 ≡ get_or t.starts k 0 → i ≡ j → Back (net_in p t) i k
      back e q i = record { from = rw i (sym q); to = rw i (sym e) }

      unnamed : (j : ℕ) → get_or t.starts j 0 ≡ get_or t.ends k 0 → get_or t.ends j 0 ≡ get_or t.starts k 0 → (m : ℕ) → m < length rows → get_or rows m 0 ≢ j
      unnamed j e q m l is = apart m (omega arith) l (inr (back e q is))
