-- Once the links so far are an accepted table, one more is judged by itself and the start before it. Assumes nothing.
use mathlib.Core.Path.{◌≡◌, refl, sym, ◌∙◌}
use mathlib.Core.Bool.{Bool, true, false, cond}
use mathlib.Core.List.{List, [], ◌∷◌}
use Prim.Native.Nat.{ℕ, ◌+◌, ◌-◌, ◌≤◌, ◌<◌}
use native.Mathlib.Omega.{arith}
use native.Mathlib.Decide.{ℕ_discrete}
use lib.Dec.{ltb}
use lib.ListN.{length, get_or, length-append, get_or-append, get_or-eq_default}
use lib.Seq.{get_or-append_seam}
use borrow.Author.Count.{below_more}
use borrow.Author.Tests.{lt-ltb, le-ltb, eq-eqb}
use Rattle.rules.specs.Columns.{Table, table, most_links}
use Rattle.rules.specs.Refusals.{only, accepted, refused, ◌then◌, when, when_one, wrong_node_count, wrong_root, wrong_columns, wrong_ends, wrong_ends_at, wrong_order_at, judge_each, judge_links}
use Rattle.std.specs.Prelude.{Ok, Err}
use Rattle.rules.specs.declared.Refusal.TheVariants.{WrongColumns, WrongEnds, WrongOrder}
use Rattle.rules.proofs.Logic.{First, first_is}
use Rattle.rules.proofs.Judged.{then_first, then_second, when_not, none_of, not_refused, links_proper}
use Rattle.links.proofs.Laws.{columns_decide, links_decide}
use Rattle.enter.specs.More.{with_one_more, with_link, LinkJudged}

-- ---- what an accepted table keeps

module _ (t : Table) (fine : judge_links t ≡ accepted) where
  count_right : wrong_node_count t ≡ false
  unfolding judge_links
  count_right = when_not (wrong_node_count t) 1 (then_first (when (wrong_node_count t) 1) _ fine)

  root_right : wrong_root t ≡ false
  unfolding judge_links
  root_right = when_not (wrong_root t) 2 (then_first (when (wrong_root t) 2) _ (then_second (when (wrong_node_count t) 1) _ fine))

  each_right : judge_each t ≡ accepted
  unfolding judge_links
  each_right = then_second (when (wrong_columns t) 3) _ (then_second (when (wrong_root t) 2) _ (then_second (when (wrong_node_count t) 1) _ fine))

  ends_right : (j : ℕ) → j < length t.starts → wrong_ends_at t j ≡ false
  ends_right = none_of (length t.starts) (wrong_ends_at t) 4 (then_first (when_one (length t.starts) (wrong_ends_at t) 4) _ each_right)

  order_right : (j : ℕ) → j < length t.starts → wrong_order_at t j ≡ false
  order_right = none_of (length t.starts) (wrong_order_at t) 5 (then_second (when_one (length t.starts) (wrong_ends_at t) 4) _ each_right)

-- ---- a search whose last place is the only one that may pass

only_last : (test : ℕ → Bool) (p number : ℕ) (last : Bool) → ((j : ℕ) → j < p → test j ≡ false) → test p ≡ last
    → when_one (p + 1) test number ≡ cond last (refused number (only p)) accepted
only_last test p number true before e =
    let here : First test (p + 1) p = record { within = omega arith; before = before; passes = λ l. e } in
    rw (first_is here, lt-ltb p (p + 1) (omega arith)) refl
only_last test p number false before e =
    let none : First test (p + 1) (p + 1) = record { within = omega arith; before = below_more (λ j. test j ≡ false) p before e; passes = λ l. absurd (omega arith) } in
    rw (first_is none, le-ltb (p + 1) (p + 1) (omega arith)) refl

-- ---- one link more

module _ (nodes root : ℕ) (starts ends costs : List ℕ) (start end cost : ℕ) (fine : judge_links (table nodes root starts ends costs) ≡ accepted) where
  abbrev so_far : Table
  so_far = table nodes root starts ends costs

  abbrev more : Table
  more = with_link so_far start end cost

  one_longer : (l : List ℕ) (x : ℕ) → length l ≡ length starts → length (with_one_more l x) ≡ length starts + 1
  one_longer l x e = omega (arith, length-append l (x ∷ []))

  ends_long : length ends ≡ length starts
  ends_long = sym (links_proper so_far fine).ends_long

  costs_long : length costs ≡ length starts
  costs_long = sym (links_proper so_far fine).costs_long

  columns_wrong : {over : Bool} → ltb most_links (length starts + 1) ≡ over → wrong_columns more ≡ over
  columns_wrong over =
      rw (one_longer starts start refl, one_longer ends end ends_long, one_longer costs cost costs_long, eq-eqb (length starts + 1) (length starts + 1) refl) over

  ends_before : (j : ℕ) → j < length starts → wrong_ends_at more j ≡ false
  unfolding wrong_ends_at
  ends_before j l = rw (get_or-append starts (start ∷ []) 0 j l, get_or-append ends (end ∷ []) 0 j (omega (arith, ends_long))) (ends_right so_far fine j l)

  order_before : (j : ℕ) → j < length starts → wrong_order_at more j ≡ false
  unfolding wrong_order_at
  order_before j l = rw (get_or-append starts (start ∷ []) 0 j l, get_or-append starts (start ∷ []) 0 (j - 1) (omega arith)) (order_right so_far fine j l)

  last_of : (l : List ℕ) (x : ℕ) → length l ≡ length starts → get_or (with_one_more l x) (length starts) 0 ≡ x
  last_of l x e = rw (← e) (get_or-append_seam l x [] 0)

  ends_last : wrong_ends_at more (length starts) ≡ wrong_ends nodes start end
  unfolding wrong_ends_at
  ends_last = rw (last_of starts start refl, last_of ends end ends_long) refl

  -- the first link has no start before it, and none is below 0
  order_last : wrong_order_at more (length starts) ≡ ltb start (get_or starts (length starts - 1) 0)
  unfolding wrong_order_at
  order_last = at (ℕ_discrete (length starts) 0)
    where
      at : Dec (length starts ≡ 0) → ltb (get_or more.starts (length starts) 0) (get_or more.starts (length starts - 1) 0) ≡ ltb start (get_or starts (length starts - 1) 0)
      at (yes e) =
          let back : length starts - 1 ≡ length starts = omega arith in
          rw (back, last_of starts start refl, get_or-eq_default starts 0 {n = length starts} (omega arith), le-ltb start start (omega arith), le-ltb start 0 (omega arith)) refl
      at (no n) = rw (last_of starts start refl, get_or-append starts (start ∷ []) 0 (length starts - 1) (omega arith)) refl

  pub full : most_links ≤ length starts → refused 3 (only 0) ≡ judge_links more
  full l = columns_decide more (count_right so_far fine) (root_right so_far fine) (columns_wrong (lt-ltb most_links (length starts + 1) (omega arith)))

  module _ (room : length starts < most_links) {ends_wrong order_wrong : Bool} (e : wrong_ends nodes start end ≡ ends_wrong) (o : ltb start (get_or starts (length starts - 1) 0) ≡ order_wrong) where
    pub last_decides : cond ends_wrong (refused 4 (only (length starts))) accepted then cond order_wrong (refused 5 (only (length starts))) accepted ≡ judge_links more
    last_decides =
        sym (rw (
          one_longer starts start refl,
          only_last (wrong_ends_at more) (length starts) 4 ends_wrong ends_before (ends_last ∙ e),
          only_last (wrong_order_at more) (length starts) 5 order_wrong order_before (order_last ∙ o),
        ) refl)
        ∙ links_decide more (count_right so_far fine) (root_right so_far fine) (columns_wrong (le-ltb most_links (length starts + 1) (omega arith)))

-- ---- the four answers

module _ {nodes : ℕ} {starts : List ℕ} {start end : ℕ} where
  pub no_place : most_links ≤ length starts → LinkJudged nodes starts start end (Err WrongColumns)
  no_place l = record { verdict = λ root ends costs cost fine. full nodes root starts ends costs start end cost fine l; room = λ e. absurd (not_refused e) }

  module _ (room : length starts < most_links) where
    pub bad_ends : wrong_ends nodes start end ≡ true → LinkJudged nodes starts start end (Err (WrongEnds (length starts)))
    bad_ends e = record {
      verdict = λ root ends costs cost fine. last_decides nodes root starts ends costs start end cost fine room e refl;
      room = λ a. room;
    }

    module _ (right : wrong_ends nodes start end ≡ false) where
      pub wrong_order : start < get_or starts (length starts - 1) 0 → LinkJudged nodes starts start end (Err (WrongOrder (length starts)))
      wrong_order l = record {
        verdict = λ root ends costs cost fine.
            last_decides nodes root starts ends costs start end cost fine room right (lt-ltb start (get_or starts (length starts - 1) 0) l);
        room = λ a. room;
      }

      pub right_link : get_or starts (length starts - 1) 0 ≤ start → LinkJudged nodes starts start end (Ok tt)
      right_link l = record {
        verdict = λ root ends costs cost fine.
            last_decides nodes root starts ends costs start end cost fine room right (le-ltb start (get_or starts (length starts - 1) 0) l);
        room = λ a. room;
      }
