-- The reader that carries the stream together with its place. Assumes nothing.
use Rattle.std.specs.Prelude.{◌≡◌, true, false, List, [], ◌∷◌, ℕ}
use Rattle.std.specs.Borrow.{Bor}
use Rattle.reader.specs.declared.Reader.{Reader}
use Rattle.reader.specs.declared.Step.{Step}
use Rattle.stream.specs.declared.Item.{Item}
use Rattle.stream.specs.declared.Read.{Read}
use Rattle.stream.specs.Records.{told_at, next_by, told, read_at, is_record}

-- a new reader stands at the first byte
abbrev pub at_start : Bor (List ℕ) → Reader
at_start stream = record { stream = stream; place = 0 }

-- the same stream, at another place
abbrev pub moved_to : Reader → ℕ → Reader
moved_to r place = record { stream = r.stream; place = place }

-- what the reader hands back: what stands at its place, in 01's numbers, and the reader at the next place
pub record HandsOn (r : Reader) (step : Step) : Type 0 where
  pub tells : told step.item ≡ told_at r.stream.now r.place
  pub moved : step.reader ≡ moved_to r (next_by (told_at r.stream.now r.place) r.place)

-- ---- the same in the code's items: proofs/Laws.antt shows that this is the one step that tells it

-- what stands at the reader's place
abbrev pub read_of : Reader → Read
read_of r = read_at r.stream.now r.place

-- what was read, as the reader hands it back: the item, and the reader at the next place
abbrev pub handed : Reader → Read → Step
handed r read = record { reader = moved_to r read.next; item = read.item }

abbrev pub step_of : Reader → Step
step_of r = handed r (read_of r)

-- Reads r records stop: asked again and again, the reader gives the records, and then stop: the end or a refusal, with
-- the reader as it then stands
pub data Reads : Reader → List Item → Step → Type 0 where
  ends : {r : Reader} → is_record (read_of r).item ≡ false → Reads r [] (step_of r)
  gives : {r : Reader} {records : List Item} {stop : Step} → is_record (read_of r).item ≡ true
      → Reads (step_of r).reader records stop → Reads r ((read_of r).item ∷ records) stop
