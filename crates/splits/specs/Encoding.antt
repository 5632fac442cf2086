-- Records as bytes: what a reader of the stream undoes. Assumes nothing.
use Rattle.std.specs.Prelude.{List, [], ◌∷◌, ◌++◌, ℕ, ◌<◌, ◌/◌, ◌%◌, get_or}
use Rattle.stream.specs.declared.Item.{Item}
use Rattle.stream.specs.Records.{Told, given, ended, refused, told}

-- numbers are 16 bits, high byte first
abbrev pub encode_numbers : List ℕ → List ℕ
encode_numbers [] = []
encode_numbers (n ∷ rest) = n / 256 ∷ n % 256 ∷ encode_numbers rest

-- one byte of kind, then the body; what is no record has no bytes
abbrev pub encode_told : Told → List ℕ
encode_told (given kind numbers) = kind ∷ encode_numbers numbers
encode_told ended = []
encode_told (refused number place) = []

abbrev pub encode : Item → List ℕ
encode item = encode_told (told item)

unfoldable pub encode_all : List Item → List ℕ
encode_all [] = []
encode_all (item ∷ items) = encode item ++ encode_all items

-- each number fits 16 bits
abbrev pub Narrow : List ℕ → Type 0
Narrow [] = Unit {0}
Narrow (n ∷ rest) = (n < 65536) × Narrow rest

-- a record whose numbers fit
abbrev pub NarrowTold : Told → Type 0
NarrowTold (given kind numbers) = Narrow numbers
NarrowTold ended = ⊥
NarrowTold (refused number place) = ⊥

abbrev pub WellFormed : Item → Type 0
WellFormed item = NarrowTold (told item)

pub data AllWellFormed : List Item → Type 0 where
  none : AllWellFormed []
  more : {item : Item} {items : List Item} → WellFormed item → AllWellFormed items → AllWellFormed (item ∷ items)

-- a list of bytes (past its end stands 0)
pub record AreBytes (stream : List ℕ) : Type 0 where
  pub below : (i : ℕ) → get_or stream i 0 < 256
