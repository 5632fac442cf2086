-- The search along a link's thread. Assumes nothing.
use mathlib.Core.Path.{◌≡◌, refl, sym, ap, ◌∙◌}
use mathlib.Core.Logic.{◌≢◌}
use mathlib.Core.List.{List}
use Prim.Native.Nat.{ℕ, suc, ◌≤◌, ◌<◌}
use native.Mathlib.Omega.{arith}
use native.Mathlib.Decide.{ℕ_discrete, dec_lt}
use lib.ListN.{get_or, replicate, length-replicate, get_or-replicate}
use Rattle.std.specs.Prelude.{None, Some}
use Rattle.rules.specs.Columns.{most_rows}
use Rattle.threads.specs.Threads.{thread_count, thread_of, LastOn, Threaded, EarliestOf}
use Rattle.threads.specs.declared.Threads.{Threads}

-- at is where the search for a link's row has come to among n rows: none from there on names the link, and the row
-- before it is on the link's thread
pub record Sought (links : List ℕ) (n link at : ℕ) : Type 0 where
  pub within : at ≤ n
  pub on_thread : (row : ℕ) → suc row ≡ at → thread_of (get_or links row 0) ≡ thread_of link
  pub none_later : (row : ℕ) → at ≤ row → row < n → get_or links row 0 ≢ link

thread_apart : (a b : ℕ) → thread_of a ≢ thread_of b → a ≢ b
thread_apart a b n e = n (ap thread_of e)

module _ {links : List ℕ} {threads : Threads} {n link : ℕ} (t : Threaded links threads n) where
  -- from the end of the link's thread
  pub sought_last : Sought links n link (get_or threads.ends (thread_of link) 0)
  sought_last =
      let last = t.last (thread_of link) (omega arith) in
      record {
        within = last.within;
        on_thread = last.on_thread;
        none_later = λ row from below. thread_apart _ _ (last.none_later row from below);
      }

  module _ {row : ℕ} (s : Sought links n link (suc row)) where
    -- a row that names the link is the only one, and so the earliest
    pub sought_found : get_or links row 0 ≡ link → EarliestOf links n link (Some row)
    sought_found e = (
      omega (arith, s.within),
      record {
        within = omega (arith, s.within);
        names = λ l. e;
        none_before = λ i l q. t.apart i row l (omega (arith, s.within)) (q ∙ sym e);
      },
    )

    -- past a row that doesn't, to the one before it on the thread
    pub sought_on : get_or links row 0 ≢ link → Sought links n link (get_or threads.before row 0)
    sought_on other = record {
      within = omega (arith, s.within, back.within);
      on_thread = λ i e. back.on_thread i e ∙ s.on_thread row refl;
      none_later = λ i from below. at i from below (dec_lt i row) (ℕ_discrete i row);
    }
      where
        back : LastOn links row (thread_of (get_or links row 0)) (get_or threads.before row 0)
        back = t.earlier row (omega (arith, s.within))

        at : (i : ℕ) → get_or threads.before row 0 ≤ i → i < n → Dec (i < row) → Dec (i ≡ row) → get_or links i 0 ≢ link
        at i from below (yes l) d = λ e. back.none_later i from l (ap thread_of e ∙ sym (s.on_thread row refl))
        at i from below (no l) (yes e) = rw e other
        at i from below (no l) (no d) = s.none_later i (omega arith) below

  -- at the thread's beginning no row is left that names it
  pub sought_none : {at : ℕ} → Sought links n link at → at ≡ 0 → EarliestOf links n link None
  sought_none s e = record {
    within = omega arith;
    names = λ l. absurd (omega arith);
    none_before = λ row l. s.none_later row (omega arith) l;
  }

-- no row yet
pub threaded_none : (links : List ℕ) → Threaded links (record { ends = replicate thread_count 0; before = replicate most_rows 0 }) 0
threaded_none links = record {
  within = omega arith;
  ends_long = length-replicate {A = ℕ} thread_count 0;
  before_long = length-replicate {A = ℕ} most_rows 0;
  few = omega arith;
  apart = λ i j l m. absurd (omega arith);
  last = λ k l.
      rw (get_or-replicate {A = ℕ} thread_count k 0 0 l)
      (record { within = omega arith; on_thread = λ row s. absurd (omega arith); none_later = λ row from below. absurd (omega arith) });
  earlier = λ row l. absurd (omega arith);
}
