-- One comparison tells whether a link offers less: by what an offer has to stay below at its ends. Assumes nothing.
use mathlib.Core.Path.{◌≡◌}
use mathlib.Core.Logic.{◌≢◌}
use mathlib.Core.Bool.{false, and-true, and-false, or-true}
use mathlib.Core.List.{List}
use Prim.Native.Nat.{ℕ, ◌+◌, ◌≤◌, ◌<◌, min}
use native.Mathlib.Omega.{arith}
use native.Mathlib.Decide.{ℕ_discrete, dec_lt}
use lib.Dec.{ltb}
use lib.ListN.{get_or}
use borrow.Author.Tests.{eq-eqb, ne_eqb, lt-ltb, le-ltb}
use Rattle.rules.specs.Columns.{most_nodes, no_ceiling}
use Rattle.offends.specs.Offends.{bar, offers_less, Bars, Low}

module _ (mark ceiling : ℕ) where
  pub bar_unreached : (d : ℕ) → d ≡ mark → bar mark ceiling d ≡ ceiling
  unfolding bar
  bar_unreached d e = rw (eq-eqb d mark e)

  pub bar_beyond : (d : ℕ) → d ≢ mark → ceiling ≤ d → bar mark ceiling d ≡ ceiling
  unfolding bar
  bar_beyond d n l = rw (ne_eqb d mark n, le-ltb d ceiling l)

  pub bar_own : (d : ℕ) → d ≢ mark → d < ceiling → bar mark ceiling d ≡ d
  unfolding bar
  bar_own d n l = rw (ne_eqb d mark n, lt-ltb d ceiling l)

  pub bar_reached : (d : ℕ) → d ≢ mark → min d ceiling ≡ bar mark ceiling d
  bar_reached d n = at (dec_lt d ceiling)
    where
      at : Dec (d < ceiling) → min d ceiling ≡ bar mark ceiling d
      at (yes l) = omega (arith, bar_own d n l)
      at (no l) = omega (arith, bar_beyond d n (omega arith))

  pub bar_low : (d : ℕ) → bar mark ceiling d ≤ ceiling
  bar_low d = at (ℕ_discrete d mark) (dec_lt d ceiling)
    where
      at : Dec (d ≡ mark) → Dec (d < ceiling) → bar mark ceiling d ≤ ceiling
      at (yes e) q = omega (arith, bar_unreached d e)
      at (no n) (yes l) = omega (arith, bar_own d n l)
      at (no n) (no l) = omega (arith, bar_beyond d n (omega arith))

  module _ (from cost to : ℕ) where
    -- nothing is offered by a node that makes no route itself
    silent : bar mark ceiling from ≡ ceiling → ltb (bar mark ceiling from + cost) (bar mark ceiling to) ≡ false
    silent e = le-ltb (bar mark ceiling from + cost) (bar mark ceiling to) (omega (arith, bar_low to))

    -- one that does offers its end its distance and the cost
    speaks : from ≢ mark → from < ceiling → Dec (to ≡ mark) → Dec (to < ceiling) → Dec (from + cost < to)
        → offers_less mark ceiling from cost to ≡ ltb (bar mark ceiling from + cost) (bar mark ceiling to)
    unfolding offers_less
    speaks n l (yes e) q r = rw (bar_own from n l, bar_unreached to e, ne_eqb from mark n, eq-eqb to mark e) (simp (and-true, or-true))
    speaks n l (no m) (yes q) (yes r) = rw (bar_own from n l, bar_own to m q, ne_eqb from mark n, ne_eqb to mark m, lt-ltb (from + cost) to r, lt-ltb (from + cost) ceiling (omega arith))
    speaks n l (no m) (yes q) (no r) = rw (bar_own from n l, bar_own to m q, ne_eqb from mark n, ne_eqb to mark m, le-ltb (from + cost) to (omega arith), and-false)
    speaks n l (no m) (no q) (yes r) = rw (bar_own from n l, bar_beyond to m (omega arith), ne_eqb from mark n, lt-ltb (from + cost) to r, and-true)
    speaks n l (no m) (no q) (no r) =
        rw (bar_own from n l, bar_beyond to m (omega arith), ne_eqb from mark n, le-ltb (from + cost) ceiling (omega arith))

    pub offers_by_bars : offers_less mark ceiling from cost to ≡ ltb (bar mark ceiling from + cost) (bar mark ceiling to)
    unfolding offers_less
    offers_by_bars = at (ℕ_discrete from mark) (dec_lt from ceiling)
      where
        at : Dec (from ≡ mark) → Dec (from < ceiling) → offers_less mark ceiling from cost to ≡ ltb (bar mark ceiling from + cost) (bar mark ceiling to)
        at (yes e) q = rw (silent (bar_unreached from e), eq-eqb from mark e)
        at (no n) (yes l) = speaks n l (ℕ_discrete to mark) (dec_lt to ceiling) (dec_lt (from + cost) to)
        at (no n) (no l) = rw (silent (bar_beyond from n (omega arith)), le-ltb (from + cost) ceiling (omega arith), and-false)

module _ {mark ceiling : ℕ} {dist : List ℕ} where
  -- no bar is above the ceiling
  pub low : {bars : List ℕ} → Bars mark ceiling dist most_nodes bars → ceiling ≤ no_ceiling → Low bars
  low h few = record { long = h.long; low = λ v l. omega (arith, bar_low mark ceiling (get_or dist v 0), h.each v l) }
