-- The reader stands still where the place does, and reads what its stream holds. Assumes nothing.
use mathlib.Core.Path.{◌≡◌, refl, sym, ap, ◌∙◌}
use mathlib.Core.Bool.{false}
use mathlib.Core.List.{List}
use Prim.Native.Nat.{ℕ}
use denote.Ref.{Bor}
use Rattle.stream.specs.declared.Item.{Item}
use Rattle.stream.specs.declared.Read.{Read}
use Rattle.stream.specs.Records.{is_record}
use Rattle.stream.proofs.Laws.{told_once, is_given_lem}
use Rattle.splits.specs.Splitting.{Splits, stops, reads, split}
use Rattle.splits.proofs.Stands.{standing}
use Rattle.splits.proofs.Splits.{stands_still, splits}
use Rattle.reader.specs.declared.Reader.{Reader}
use Rattle.reader.specs.declared.Step.{Step}
use Rattle.reader.specs.Reading.{at_start, moved_to, HandsOn, handed, step_of, Reads, ends, gives}

-- one step is handed back
pub hands_on_once : {r : Reader} {step : Step} → HandsOn r step → step ≡ step_of r
hands_on_once {r} h =
    let due = is_given_lem r.stream.now r.place refl in
    let item = told_once (h.tells ∙ sym due.tells) in
    let reader = h.moved ∙ ap (moved_to r) (sym due.next_place) in
    λ i. record { reader = reader i; item = item i }

-- at the end and after a refusal the reader handed back is the reader
pub stays : (r : Reader) → is_record (step_of r).item ≡ false → (step_of r).reader ≡ r
stays r none = ap (moved_to r) (stands_still (standing r.stream.now r.place) none)

module _ (r : Reader) where
  reads_on : {place : ℕ} {records : List Item} {stop : Read} → Splits r.stream.now place records stop → Reads (moved_to r place) records (handed r stop)
  reads_on (stops none) = ends none
  reads_on (reads one onward) = gives one (reads_on onward)

-- a new reader gives the records that its stream splits into, and then stands where the split stops
pub reads_all : (stream : Bor (List ℕ)) → Reads (at_start stream) (split stream.now).records (handed (at_start stream) (split stream.now).stop)
reads_all stream = reads_on (at_start stream) (splits stream.now)
