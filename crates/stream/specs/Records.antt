-- The record stream, as the scope says it: one byte of kind, then a body whose length the kind fixes. A stream is
-- the list of its bytes. Assumes nothing.
use Rattle.std.specs.Prelude.{Option, None, Some, ℕ, zero, suc, ◌+◌, ◌*◌, ◌/◌, ◌≡◌, List, [], ◌∷◌, Bool, true, false, cond, eqb, leb, length, get_or}
use Rattle.stream.specs.declared.Item.{Item}
use Rattle.stream.specs.declared.Item.TheVariants.{Network, Link, Change, Apply, Ask, End, UnknownKind, CutShort}
use Rattle.stream.specs.declared.Read.{Read}

-- the length of a kind's body, where the kind is known
abbrev pub body_length : ℕ → Option ℕ
body_length kind =
    cond (eqb kind 1) (Some 4)
    (cond (eqb kind 2) (Some 6)
    (cond (eqb kind 3) (Some 4)
    (cond (eqb kind 4) (Some 0)
    (cond (eqb kind 5) (Some 2) None))))

abbrev pub bytes_in : Option ℕ → ℕ
bytes_in (Some n) = n
bytes_in None = 0

-- numbers are 16 bits, high byte first
abbrev pub number_at : List ℕ → ℕ → ℕ
number_at stream place = get_or stream place 0 * 256 + get_or stream (place + 1) 0

-- what the reader tells: a record's kind and its body's numbers, the end, or a refusal's number and the place of the kind
-- byte
pub data Told : Type 0 where
  given : (kind : ℕ) (numbers : List ℕ) → Told
  ended : Told
  refused : (number place : ℕ) → Told

-- so many numbers, from a place on
abbrev pub numbers_at : List ℕ → ℕ → ℕ → List ℕ
numbers_at stream place zero = []
numbers_at stream place (suc n) = number_at stream place ∷ numbers_at stream (place + 2) n

-- inside the stream: an unknown kind, a body cut short, or a record
abbrev pub told_body : Option ℕ → List ℕ → ℕ → Told
told_body None stream place = refused 21 place
told_body (Some n) stream place =
    cond (leb (place + 1 + n) (length stream)) (given (get_or stream place 0) (numbers_at stream (place + 1) (n / 2))) (refused 22 place)

-- at or past the end, the end
unfoldable pub told_at : List ℕ → ℕ → Told
told_at stream place = cond (leb (length stream) place) ended (told_body (body_length (get_or stream place 0)) stream place)

-- the next place: past a record's body; at the end and after a refusal it stands still
abbrev pub next_by : Told → ℕ → ℕ
next_by (given kind numbers) place = place + 1 + bytes_in (body_length kind)
next_by ended place = place
next_by (refused number at) place = place

-- ---- what each case of the code's items means in 01

abbrev pub told : Item → Told
told (Network nodes root) = given 1 (nodes ∷ root ∷ [])
told (Link start end cost) = given 2 (start ∷ end ∷ cost ∷ [])
told (Change link cost) = given 3 (link ∷ cost ∷ [])
told Apply = given 4 []
told (Ask node) = given 5 (node ∷ [])
told End = ended
told (UnknownKind place) = refused 21 place
told (CutShort place) = refused 22 place

-- what the reader gives at a place
pub record GivenAt (stream : List ℕ) (place : ℕ) (read : Read) : Type 0 where
  pub tells : told read.item ≡ told_at stream place
  pub next_place : read.next ≡ next_by (told_at stream place) place

-- the refusal's number, 0 where nothing is refused
abbrev pub number_in : Told → ℕ
number_in (given kind numbers) = 0
number_in ended = 0
number_in (refused number place) = number

abbrev pub number_of : Item → ℕ
number_of item = number_in (told item)

abbrev pub is_given : Told → Bool
is_given (given kind numbers) = true
is_given ended = false
is_given (refused number place) = false

abbrev pub is_record : Item → Bool
is_record item = is_given (told item)

-- ---- the same in the code's items: proofs/Laws.antt shows that this is the one read that tells it

-- the record of a kind, its kind byte at a place
abbrev pub record_at : ℕ → List ℕ → ℕ → Item
record_at kind stream place =
    cond (eqb kind 1) (Network (number_at stream (place + 1)) (number_at stream (place + 3)))
    (cond (eqb kind 2) (Link (number_at stream (place + 1)) (number_at stream (place + 3)) (number_at stream (place + 5)))
    (cond (eqb kind 3) (Change (number_at stream (place + 1)) (number_at stream (place + 3)))
    (cond (eqb kind 4) Apply
    (cond (eqb kind 5) (Ask (number_at stream (place + 1))) (UnknownKind place)))))

-- the place stands still
abbrev pub stands : Item → ℕ → Read
stands item place = record { item = item; next = place }

-- inside the stream: an unknown kind, a body cut short, or a record
abbrev pub read_body : Option ℕ → List ℕ → ℕ → Read
read_body None stream place = stands (UnknownKind place) place
read_body (Some n) stream place =
    cond (leb (place + 1 + n) (length stream))
    (record { item = record_at (get_or stream place 0) stream place; next = place + 1 + n })
    (stands (CutShort place) place)

-- what the reader gives at a place: at or past the end, the end
unfoldable pub read_at : List ℕ → ℕ → Read
read_at stream place = cond (leb (length stream) place) (stands End place) (read_body (body_length (get_or stream place 0)) stream place)
