-- A stream as the records that it holds, read one after another. Assumes nothing.
use Rattle.std.specs.Prelude.{◌≡◌, List, [], ◌∷◌, Bool, true, false, ℕ, zero, suc, length}
use Rattle.stream.specs.declared.Item.{Item}
use Rattle.stream.specs.declared.Read.{Read}
use Rattle.stream.specs.Records.{read_at, is_record}

-- Splits stream place records stop: reading from place on gives the records, and then stop: the end or a refusal,
-- with the place where the reader then stands still
pub data Splits (stream : List ℕ) : ℕ → List Item → Read → Type 0 where
  stops : {place : ℕ} → is_record (read_at stream place).item ≡ false → Splits stream place [] (read_at stream place)
  reads : {place : ℕ} {records : List Item} {stop : Read} → is_record (read_at stream place).item ≡ true
      → Splits stream (read_at stream place).next records stop → Splits stream place ((read_at stream place).item ∷ records) stop

-- the same, computed: so many records at most
pub record Split : Type 0 where
  pub records : List Item
  pub stop : Read

abbrev pub followed : Bool → Read → Split → Split
followed true read rest = record { records = read.item ∷ rest.records; stop = rest.stop }
followed false read rest = record { records = []; stop = read }

unfoldable pub split_from : ℕ → List ℕ → ℕ → Split
split_from zero stream place = record { records = []; stop = read_at stream place }
split_from (suc most) stream place =
    followed (is_record (read_at stream place).item) (read_at stream place) (split_from most stream (read_at stream place).next)

-- no stream holds more records than bytes
abbrev pub split : List ℕ → Split
split stream = split_from (length stream) stream 0
