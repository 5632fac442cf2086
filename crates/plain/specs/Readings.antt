-- What the reader hands back to other languages. Assumes nothing.
use Rattle.std.specs.Prelude.{◌≡◌, List, [], ◌∷◌, ℕ, get_or}
use Rattle.stream.specs.Records.{Told, given, ended, refused, told, number_of}
use Rattle.stream.specs.declared.Item.{Item}
use Rattle.stream.specs.declared.Read.{Read}
use Rattle.plain.specs.declared.Parts.{Parts}

-- three places: the numbers of a body, and 0 in the places that it doesn't have
abbrev pub three : List ℕ → List ℕ
three numbers = get_or numbers 0 0 ∷ get_or numbers 1 0 ∷ get_or numbers 2 0 ∷ []

-- a record's kind and numbers; at the end and with a refusal all of it is 0
abbrev pub parts_in : Told → Parts
parts_in (given kind numbers) = record { kind = kind; numbers = three numbers }
parts_in ended = record { kind = 0; numbers = three [] }
parts_in (refused number place) = record { kind = 0; numbers = three [] }

abbrev pub parts_of : Item → Parts
parts_of item = parts_in (told item)

-- what is handed back for what the reader gives: 0 or the refusal's number, the kind, the numbers and the next place
pub record HandedBack (read : Read) (number kind : ℕ) (numbers : List ℕ) (next : ℕ) : Type 0 where
  pub number_told : number ≡ number_of read.item
  pub kind_told : kind ≡ (parts_of read.item).kind
  pub numbers_told : numbers ≡ (parts_of read.item).numbers
  pub next_told : next ≡ read.next
