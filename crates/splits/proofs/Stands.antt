-- What stands at a place, in one of eight ways: the reader gives exactly that. Assumes nothing.
use mathlib.Core.Path.{◌≡◌, ap, sym, subst}
use mathlib.Core.List.{List}
use Prim.Native.Nat.{ℕ, ◌+◌, ◌≤◌, ◌<◌}
use native.Mathlib.Omega.{arith}
use native.Mathlib.Decide.{dec_le, ℕ_discrete}
use lib.ListN.{length, get_or}
use Rattle.std.specs.Prelude.{Some}
use Rattle.stream.specs.declared.Item.TheVariants.{Network, Link, Change, Apply, Ask, End, UnknownKind, CutShort}
use Rattle.stream.specs.declared.Read.{Read}
use Rattle.stream.specs.Records.{body_length, number_at, read_at}
use Rattle.stream.proofs.Laws.{NoKind, no_length, reads_end, reads_unknown, reads_cut, reads_record}

-- ---- the kinds

data Kind (k : ℕ) : Type 0 where
  is_network : k ≡ 1 → Kind k
  is_link : k ≡ 2 → Kind k
  is_change : k ≡ 3 → Kind k
  is_apply : k ≡ 4 → Kind k
  is_ask : k ≡ 5 → Kind k
  is_none : NoKind k → Kind k

kind : (k : ℕ) → Kind k
kind k = at (ℕ_discrete k 1) (ℕ_discrete k 2) (ℕ_discrete k 3) (ℕ_discrete k 4) (ℕ_discrete k 5)
  where
    at : Dec (k ≡ 1) → Dec (k ≡ 2) → Dec (k ≡ 3) → Dec (k ≡ 4) → Dec (k ≡ 5) → Kind k
    at (yes e) b c d f = is_network e
    at (no a) (yes e) c d f = is_link e
    at (no a) (no b) (yes e) d f = is_change e
    at (no a) (no b) (no c) (yes e) f = is_apply e
    at (no a) (no b) (no c) (no d) (yes e) = is_ask e
    at (no a) (no b) (no c) (no d) (no e) =
        is_none (record { not_network = a; not_link = b; not_change = c; not_apply = d; not_ask = e })

-- ---- the eight ways

module _ (stream : List ℕ) (place : ℕ) where
  abbrev pub kind_at : ℕ
  kind_at = get_or stream place 0

  abbrev pub first : ℕ
  first = number_at stream (place + 1)

  abbrev pub second : ℕ
  second = number_at stream (place + 3)

  abbrev pub third : ℕ
  third = number_at stream (place + 5)

  -- a record or a refusal stands here when, and only when, its line says so
  pub data StandsStill : Read → Type 0 where
    at_the_end : length stream ≤ place → StandsStill (record { item = End; next = place })
    unknown : place < length stream → NoKind kind_at → StandsStill (record { item = UnknownKind place; next = place })
    cut : {n : ℕ} → place < length stream → body_length kind_at ≡ Some n → length stream < place + 1 + n
        → StandsStill (record { item = CutShort place; next = place })
    a_network : kind_at ≡ 1 → place + 1 + 4 ≤ length stream → StandsStill (record { item = Network first second; next = place + 1 + 4 })
    a_link : kind_at ≡ 2 → place + 1 + 6 ≤ length stream → StandsStill (record { item = Link first second third; next = place + 1 + 6 })
    a_change : kind_at ≡ 3 → place + 1 + 4 ≤ length stream → StandsStill (record { item = Change first second; next = place + 1 + 4 })
    an_apply : kind_at ≡ 4 → place + 1 + 0 ≤ length stream → StandsStill (record { item = Apply; next = place + 1 + 0 })
    an_ask : kind_at ≡ 5 → place + 1 + 2 ≤ length stream → StandsStill (record { item = Ask first; next = place + 1 + 2 })

  -- the reader gives nothing else
  pub stands_only : {read : Read} → StandsStill read → read ≡ read_at stream place
  stands_only (at_the_end l) = reads_end stream place l
  stands_only (unknown l none) = reads_unknown stream place l (sym (no_length none))
  stands_only (cut l known short) = reads_cut stream place l known short
  stands_only (a_network e l) = rw e at (reads_record stream place (omega arith) (ap body_length e) l)
  stands_only (a_link e l) = rw e at (reads_record stream place (omega arith) (ap body_length e) l)
  stands_only (a_change e l) = rw e at (reads_record stream place (omega arith) (ap body_length e) l)
  stands_only (an_apply e l) = rw e at (reads_record stream place (omega arith) (ap body_length e) l)
  stands_only (an_ask e l) = rw e at (reads_record stream place (omega arith) (ap body_length e) l)

  there : {read : Read} → StandsStill read → StandsStill (read_at stream place)
  there s = subst StandsStill (stands_only s) s

  -- of a known kind: the body is whole, or it is cut short
  of_length : place < length stream → {n : ℕ} → body_length kind_at ≡ Some n
      → {read : Read} → (place + 1 + n ≤ length stream → StandsStill read) → StandsStill (read_at stream place)
  of_length l {n} known {read} whole = at (dec_le (place + 1 + n) (length stream))
    where
      at : Dec (place + 1 + n ≤ length stream) → StandsStill (read_at stream place)
      at (yes fits) = there (whole fits)
      at (no short) = there (cut l known (omega arith))

  of_kind : place < length stream → Kind kind_at → StandsStill (read_at stream place)
  of_kind l (is_network e) = of_length l (ap body_length e) (a_network e)
  of_kind l (is_link e) = of_length l (ap body_length e) (a_link e)
  of_kind l (is_change e) = of_length l (ap body_length e) (a_change e)
  of_kind l (is_apply e) = of_length l (ap body_length e) (an_apply e)
  of_kind l (is_ask e) = of_length l (ap body_length e) (an_ask e)
  of_kind l (is_none none) = there (unknown l none)

  pub standing : StandsStill (read_at stream place)
  standing = at (dec_le (length stream) place)
    where
      at : Dec (length stream ≤ place) → StandsStill (read_at stream place)
      at (yes l) = there (at_the_end l)
      at (no l) = of_kind (omega arith) (kind kind_at)
