-- The pass over the links, which makes two searches at once, and the count of wrong links that spares it. Assumes nothing.
use mathlib.Core.Path.{◌≡◌, refl, sym, ◌∙◌}
use mathlib.Core.Bool.{Bool, true, false, ◌||◌, cond}
use Prim.Native.Nat.{ℕ, ◌+◌, ◌-◌, ◌≤◌, ◌<◌}
use native.Mathlib.Omega.{arith}
use borrow.Author.Tests.{ltb-false, lt-ltb, le-ltb}
use Rattle.std.specs.Prelude.{Option, None, Some}
use Rattle.std.specs.Option.{option_or}
use lib.Dec.{ltb}
use lib.ListN.{length, get_or}
use Rattle.rules.specs.Columns.{Table}
use Rattle.rules.specs.Refusals.{only, accepted, refused, wrong_ends_at, wrong_order_at, judge_each}
use Rattle.rules.proofs.Search.{Seen, seen_none, seen_more, seen_here, one_seen, none_seen}

-- ---- the pass

-- of the links before i, the first that starts below the one before it
abbrev pub FirstFall : Table → ℕ → Option ℕ → Type 0
FirstFall t i None = Seen (wrong_order_at t) (length t.starts) i (length t.starts)
FirstFall t i (Some fall) = (fall < length t.starts) × Seen (wrong_order_at t) (length t.starts) i fall

-- The links before i have right ends, and fall is the first of them that starts below the one before it. Link i breaks the
-- order where it starts below previous.
pub record Passed (t : Table) (fall : Option ℕ) (previous i : ℕ) : Type 0 where
  pub within : i ≤ length t.starts
  pub ends_right : Seen (wrong_ends_at t) (length t.starts) i (length t.starts)
  pub first_fall : FirstFall t i fall
  pub falls : ltb (get_or t.starts i 0) previous ≡ wrong_order_at t i

pub passed_none : (t : Table) → Passed t None 0 0
unfolding wrong_order_at
passed_none t =
    let start = get_or t.starts 0 0 in
    record {
      within = omega arith;
      ends_right = seen_none (wrong_ends_at t) (length t.starts);
      first_fall = seen_none (wrong_order_at t) (length t.starts);
      falls = le-ltb start 0 (omega arith) ∙ sym (le-ltb start start (omega arith));
    }

module _ {t : Table} {fall : Option ℕ} {previous i : ℕ} (p : Passed t fall previous i) (l : i < length t.starts) where
  pub passed_more : wrong_ends_at t i ≡ false → {next : Option ℕ} → FirstFall t (i + 1) next → Passed t next (get_or t.starts i 0) (i + 1)
  unfolding wrong_order_at
  passed_more right seen =
      let back : (i + 1) - 1 ≡ i = omega arith in
      record { within = omega arith; ends_right = seen_more p.ends_right (λ m. right); first_fall = seen; falls = rw back }

  -- link i breaks the order, as an earlier one may
  pub falls_here : get_or t.starts i 0 < previous → FirstFall t (i + 1) (option_or fall (Some i))
  falls_here m = at fall p.first_fall
    where
      at : (fall : Option ℕ) → FirstFall t i fall → FirstFall t (i + 1) (option_or fall (Some i))
      at None seen = (l, seen_here seen l (sym p.falls ∙ lt-ltb (get_or t.starts i 0) previous m))
      at (Some first) seen = (seen.0, seen_more seen.1 (λ k. absurd (omega (arith, seen.1.found seen.0))))

  -- link i keeps the order
  pub keeps_here : previous ≤ get_or t.starts i 0 → FirstFall t (i + 1) fall
  keeps_here m = at fall p.first_fall
    where
      right : wrong_order_at t i ≡ false
      right = sym p.falls ∙ le-ltb (get_or t.starts i 0) previous m

      at : (fall : Option ℕ) → FirstFall t i fall → FirstFall t (i + 1) fall
      at None seen = seen_more seen (λ k. right)
      at (Some first) seen = (seen.0, seen_more seen.1 (λ k. right))

  pub ends_decide : wrong_ends_at t i ≡ true → refused 4 (only i) ≡ judge_each t
  ends_decide wrong = rw (one_seen (seen_here p.ends_right l wrong) 4 l)

-- after the last link
module _ {t : Table} {previous i : ℕ} (end : length t.starts ≤ i) where
  pub order_decides : {fall : ℕ} → Passed t (Some fall) previous i → refused 5 (only fall) ≡ judge_each t
  order_decides p = rw (none_seen p.ends_right 4 end (omega arith), one_seen p.first_fall.1 5 p.first_fall.0)

  pub nothing_decides : Passed t None previous i → accepted ≡ judge_each t
  nothing_decides p = rw (none_seen p.ends_right 4 end (omega arith), none_seen p.first_fall 5 end (omega arith))

-- ---- the count of wrong links

-- 1 for a wrong link and 0 for a right one
fault_few : (wrong : Bool) {fault : ℕ} → fault ≡ cond wrong 1 0 → fault ≤ 1
fault_few true e = omega arith
fault_few false e = omega arith

fault_none : (ends order : Bool) {fault : ℕ} → fault ≡ cond (ends || order) 1 0 → fault ≡ 0 → (ends ≡ false) × (order ≡ false)
fault_none true order e none = absurd (omega arith)
fault_none false true e none = absurd (omega arith)
fault_none false false e none = (refl, refl)

-- No more links are counted as wrong than stand before i. Where none is, those before i are passed without a fall.
pub record Counted (t : Table) (count previous i : ℕ) : Type 0 where
  pub within : i ≤ length t.starts
  pub few : count ≤ i
  pub none_wrong : count ≡ 0 → Passed t None previous i

pub counted_none : (t : Table) → Counted t 0 0 0
counted_none t = record { within = omega arith; few = omega arith; none_wrong = λ none. passed_none t }

module _ {t : Table} {count previous i : ℕ} (p : Counted t count previous i) where
  pub counted_more : i < length t.starts
      → {fault : ℕ} → fault ≡ cond (wrong_ends_at t i || ltb (get_or t.starts i 0) previous) 1 0
      → Counted t (count + fault) (get_or t.starts i 0) (i + 1)
  counted_more l e =
      let ends = wrong_ends_at t i in
      let order = ltb (get_or t.starts i 0) previous in
      let few_more = fault_few (ends || order) e in
      record {
        within = omega arith;
        few = omega arith;
        none_wrong = λ none.
            let right = fault_none ends order e (omega arith) in
            let passed = p.none_wrong (omega arith) in
            passed_more passed l right.0 (keeps_here passed l (ltb-false _ _ right.1));
      }

  pub none_counted : length t.starts ≤ i → count ≡ 0 → accepted ≡ judge_each t
  none_counted end none = nothing_decides end (p.none_wrong none)
