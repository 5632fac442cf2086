-- A stream splits into records in exactly one way. Assumes nothing.
use mathlib.Core.Path.{◌≡◌, refl, sym, subst}
use mathlib.Core.List.{List}
use mathlib.Core.Bool.{Bool, true, false}
use Prim.Native.Nat.{ℕ, zero, suc, ◌+◌, ◌≤◌, ◌<◌}
use native.Mathlib.Omega.{arith}
use lib.ListN.{length}
use Rattle.stream.specs.declared.Item.{Item}
use Rattle.stream.specs.declared.Item.TheVariants.{End}
use Rattle.stream.specs.declared.Read.{Read}
use Rattle.stream.specs.Records.{read_at, is_record}
use Rattle.splits.specs.Splitting.{Splits, stops, reads, Split, followed, split_from, split}
use Rattle.splits.proofs.Stands.{StandsStill, at_the_end, unknown, cut, a_network, a_link, a_change, an_apply, an_ask, standing, stands_only}

-- no test both passes and fails
pub both : {b : Bool} → b ≡ true → b ≡ false → ⊥
both p q = let z : ◌≡◌ {A = Bool} true false = cc in let y : ◌≡◌ {A = ℕ} 0 1 = cc in omega arith

module _ {stream : List ℕ} where
  pub one_split : {place : ℕ} {records others : List Item} {stop other : Read} → Splits stream place records stop → Splits stream place others other
      → (records ≡ others) × (stop ≡ other)
  one_split (stops p) (stops q) = (refl, refl)
  one_split (stops p) (reads q b) = absurd (both q p)
  one_split (reads p a) (stops q) = absurd (both p q)
  one_split (reads p a) (reads q b) =
      let rest = one_split a b in
      ((cc), rest.1)

-- a record lies within the stream, and the reader moves on past it
pub record Moves (stream : List ℕ) (place next : ℕ) : Type 0 where
  pub on : place < next
  pub within : next ≤ length stream

pub moves : {stream : List ℕ} {place : ℕ} {read : Read} → StandsStill stream place read → is_record read.item ≡ true → Moves stream place read.next
moves (at_the_end l) e = absurd (both e refl)
moves (unknown l n) e = absurd (both e refl)
moves (cut l k s) e = absurd (both e refl)
moves (a_network k l) e = record { on = omega arith; within = l }
moves (a_link k l) e = record { on = omega arith; within = l }
moves (a_change k l) e = record { on = omega arith; within = l }
moves (an_apply k l) e = record { on = omega arith; within = l }
moves (an_ask k l) e = record { on = omega arith; within = l }

-- what is no record leaves the place as it is
pub stands_still : {stream : List ℕ} {place : ℕ} {read : Read} → StandsStill stream place read → is_record read.item ≡ false → read.next ≡ place
stands_still (at_the_end l) e = refl
stands_still (unknown l n) e = refl
stands_still (cut l k s) e = refl
stands_still (a_network k l) e = absurd (both refl e)
stands_still (a_link k l) e = absurd (both refl e)
stands_still (a_change k l) e = absurd (both refl e)
stands_still (an_apply k l) e = absurd (both refl e)
stands_still (an_ask k l) e = absurd (both refl e)

-- what reading stops at stands at its place
pub stopped : {stream : List ℕ} {place : ℕ} {records : List Item} {stop : Read} → Splits stream place records stop → StandsStill stream stop.next stop
stopped {stream} {place} (stops e) =
    let here = standing stream place in
    subst (λ (p : ℕ). StandsStill stream p (read_at stream place)) (sym (stands_still here e)) here
stopped (reads e onward) = stopped onward

unlike : {A : Type 0} → ◌≡◌ {A = ℕ} 0 1 → A
unlike e = absurd (omega arith)

-- the end stands at or past the end alone
pub only_at_end : {stream : List ℕ} {place : ℕ} {read : Read} → StandsStill stream place read → read.item ≡ End → length stream ≤ place
only_at_end (at_the_end l) e = l
only_at_end (unknown l n) e = unlike (cc)
only_at_end (cut l k s) e = unlike (cc)
only_at_end (a_network k l) e = unlike (cc)
only_at_end (a_link k l) e = unlike (cc)
only_at_end (a_change k l) e = unlike (cc)
only_at_end (an_apply k l) e = unlike (cc)
only_at_end (an_ask k l) e = unlike (cc)

-- at or past the end stands no record
no_more : (stream : List ℕ) (place : ℕ) → length stream ≤ place → is_record (read_at stream place).item ≡ false
no_more stream place l = rw (← stands_only stream place (at_the_end l))

splits_from : (most : ℕ) (stream : List ℕ) (place : ℕ) → length stream ≤ place + most
    → Splits stream place (split_from most stream place).records (split_from most stream place).stop
unfolding split_from
splits_from zero stream place l = stops (no_more stream place (omega arith))
splits_from (suc most) stream place l = at (is_record (read_at stream place).item) refl (splits_from most stream (read_at stream place).next)
  where
    rest : Split
    rest = split_from most stream (read_at stream place).next

    at : (b : Bool) → is_record (read_at stream place).item ≡ b
        → (length stream ≤ (read_at stream place).next + most → Splits stream (read_at stream place).next rest.records rest.stop)
        → Splits stream place (followed b (read_at stream place) rest).records (followed b (read_at stream place) rest).stop
    at true e from = reads e (from (let past = moves (standing stream place) e in omega arith))
    at false e from = stops e

-- every stream splits
pub splits : (stream : List ℕ) → Splits stream 0 (split stream).records (split stream).stop
splits stream = splits_from (length stream) stream 0 (omega arith)

-- and in no other way
pub splits_only : {stream : List ℕ} {records : List Item} {stop : Read} → Splits stream 0 records stop
    → (records ≡ (split stream).records) × (stop ≡ (split stream).stop)
splits_only {stream} s = one_split s (splits stream)
