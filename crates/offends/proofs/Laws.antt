-- The pass over the links, one link further. Assumes nothing.
use mathlib.Core.Path.{◌≡◌, refl, sym, ◌∙◌}
use mathlib.Core.Bool.{Bool, true, false, ◌&&◌, and-false, true≢false}
use mathlib.Core.List.{List}
use Prim.Native.Nat.{ℕ, ◌+◌, ◌≤◌, ◌<◌, min}
use native.Mathlib.Omega.{arith}
use native.Mathlib.Decide.{dec_lt}
use lib.Dec.{ltb}
use lib.ListN.{length, get_or}
use borrow.Author.Count.{below_more}
use Rattle.std.specs.Prelude.{Option, None, Some, unwrap_or}
use Rattle.rules.specs.Net.{Net}
use Rattle.rules.specs.Tests.{usable}
use Rattle.rules.specs.Columns.{Table, Proper, net_in, most_nodes}
use Rattle.rules.specs.declared.Profile.{Profile}
use Rattle.usable.proofs.Asked.{not_usable}
use Rattle.usable.proofs.Reading.{start_has_row, end_has_row, read_row}
use Rattle.offends.specs.Offends.{offers_less, offends, Bars, offers_by, offends_by, Calm, Offended, LeastOffended, LeastOffendedOf}
use Rattle.offends.proofs.Below.{offers_by_bars}

-- what is read of a link and of its ends decides
module _ (p : Profile) {t : Table} (proper : Proper t) (ds : List ℕ) (long : length ds ≡ most_nodes) {k : ℕ} (is_link : k < length t.starts) where
  pub offends_reads : offends (net_in p t) (λ v. get_or ds v p.mark) k
      ≡ (offers_less p.mark p.ceiling (get_or ds (get_or t.starts k 0) 0) (get_or t.costs k 0) (get_or ds (get_or t.ends k 0) 0)
      && usable (net_in p t) k)
  unfolding offends
  offends_reads =
      rw (
        read_row ds long (get_or t.starts k 0) p.mark (start_has_row proper is_link),
        read_row ds long (get_or t.ends k 0) p.mark (end_has_row proper is_link),
      )

  -- its ends' bars tell it
  pub by_bars : {bars : List ℕ} → Bars p.mark p.ceiling ds most_nodes bars
      → offends_by (net_in p t) bars k ≡ offends (net_in p t) (λ v. get_or ds v p.mark) k
  unfolding offends_by
  by_bars h =
      rw (
        offends_reads,
        offers_by_bars p.mark p.ceiling (get_or ds (get_or t.starts k 0) 0) (get_or t.costs k 0) (get_or ds (get_or t.ends k 0) 0),
        h.each (get_or t.starts k 0) (omega (arith, start_has_row proper is_link)),
        h.each (get_or t.ends k 0) (omega (arith, end_has_row proper is_link)),
      )

-- what a link offers decides, then whether it is usable; one that is down never is
module _ (p : Profile) (t : Table) (bars : List ℕ) (k : ℕ) {b : Bool} where
  pub offends_less : b ≡ offers_by t bars k → b ≡ true → {a : Bool} → a ≡ usable (net_in p t) k → a ≡ offends_by (net_in p t) bars k
  unfolding offers_by offends_by
  offends_less is less e = rw (← is, less) e

  pub offends_not : b ≡ offers_by t bars k → b ≡ false → false ≡ offends_by (net_in p t) bars k
  unfolding offers_by offends_by
  offends_not is level = rw (← is, level)

-- a link that is down or offers nothing less doesn't offend
calm_not : (p : Profile) (t : Table) (bars : List ℕ) (k : ℕ) → (ltb 0 (get_or t.costs k 0) && offers_by t bars k) ≡ false
    → offends_by (net_in p t) bars k ≡ false
unfolding offers_by offends_by
calm_not p t bars k fails = by (offers_by t bars k) (ltb 0 (get_or t.costs k 0)) refl refl
  where
    by : (a b : Bool) → a ≡ offers_by t bars k → b ≡ ltb 0 (get_or t.costs k 0)
        → (ltb (get_or bars (get_or t.starts k 0) 0 + get_or t.costs k 0) (get_or bars (get_or t.ends k 0) 0) && usable (net_in p t) k) ≡ false
    by a false offers up = rw (← not_usable (net_in p t) k (sym up), and-false)
    by false true offers up = rw (← offers)
    by true true offers up = absurd (true≢false (rw (← offers, ← up) at fails))

offended_more : {N : Net} {dist : ℕ → ℕ} {n v : ℕ} → Offended N dist n v → Offended N dist (n + 1) v
offended_more o = record { link = o.link; is_link = omega (arith, o.is_link); ends_at = o.ends_at; offends = o.offends }

-- where none of the first n links offends, none of their ends is told
pub least_calm : (p : Profile) {t : Table} → Proper t → (ds : List ℕ) → length ds ≡ most_nodes → {bars : List ℕ} {n : ℕ}
    → Bars p.mark p.ceiling ds most_nodes bars → Calm t bars n → LeastOffended (net_in p t) (λ v. get_or ds v p.mark) n most_nodes
least_calm p {t} proper ds long {bars} h calm = record {
  within = omega arith;
  least = λ k l o. absurd (true≢false (sym o ∙ sym (by_bars p proper ds long (omega (arith, calm.is_few)) h) ∙ calm_not p t bars k (calm.none k l)));
  offended = λ l. absurd (omega arith);
}

-- a link more that ends no sooner
least_later : {N : Net} {dist : ℕ → ℕ} {n v : ℕ} → LeastOffended N dist n v
    → (offends N dist n ≡ true → v ≤ N.end n) → LeastOffended N dist (n + 1) v
least_later {N} {dist} {n} {v} h later = record {
  within = h.within;
  least = below_more (λ (k : ℕ). offends N dist k ≡ true → v ≤ N.end k) n h.least later;
  offended = λ l. offended_more (h.offended l);
}

-- a link more that offers its end less, and ends sooner
least_sooner : {N : Net} {dist : ℕ → ℕ} {n v : ℕ} → LeastOffended N dist n v
    → offends N dist n ≡ true → N.end n < v → LeastOffended N dist (n + 1) (N.end n)
least_sooner {N} {dist} {n} {v} h passes sooner = record {
  within = omega (arith, h.within);
  least =
      below_more (λ (k : ℕ). offends N dist k ≡ true → N.end n ≤ N.end k) n
      (λ k l o. omega (arith, h.least k l o))
      (λ o. omega arith);
  offended = λ l. record { link = n; is_link = omega arith; ends_at = refl; offends = passes };
}

module _ (N : Net) (dist : ℕ → ℕ) (n : ℕ) where
  -- a link more that offers its end nothing less
  pub least_skip : (o : Option ℕ) → LeastOffendedOf N dist n o → offends N dist n ≡ false → LeastOffendedOf N dist (n + 1) o
  least_skip None h fails = least_later h (λ o. absurd (true≢false (sym o ∙ fails)))
  least_skip (Some v) h fails = (h.0, least_later h.1 (λ o. absurd (true≢false (sym o ∙ fails))))

  -- a link more that offers its end less
  pub least_take : (o : Option ℕ) → LeastOffendedOf N dist n o → offends N dist n ≡ true → N.end n < most_nodes
      → {v : ℕ} → v ≡ min (unwrap_or o (N.end n)) (N.end n) → LeastOffendedOf N dist (n + 1) (Some v)
  least_take None h passes node {v} is = let same : v ≡ N.end n = omega arith in rw same (node, least_sooner h passes node)
  least_take (Some u) h passes node {v} is = by (dec_lt (N.end n) u)
    where
      by : Dec (N.end n < u) → LeastOffendedOf N dist (n + 1) (Some v)
      by (yes l) = let same : v ≡ N.end n = omega arith in rw same (node, least_sooner h.1 passes l)
      by (no l) = let same : v ≡ u = omega arith in rw same (h.0, least_later h.1 (λ o. omega arith))
