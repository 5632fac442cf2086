-- Encoding undoes reading, both ways round. Assumes nothing.
use mathlib.Core.Path.{◌≡◌, refl, sym, ◌∙◌, subst}
use mathlib.Core.List.{List, [], ◌∷◌, ◌++◌, append_assoc, append-nil}
use mathlib.Core.Bool.{true, false}
use Prim.Native.Nat.{ℕ, zero, suc, ◌+◌, ◌*◌, ◌≤◌, ◌<◌, ◌/◌, ◌%◌}
use native.Mathlib.Omega.{arith}
use native.Mathlib.Nat.{add_assoc}
use native.Mathlib.Numerals.{add-one}
use lib.ListN.{length, get_or, take, length-append}
use lib.Seq.{take-suc, take_all, get_or-append-add, get_or-append_seam}
use Rattle.stream.specs.declared.Item.{Item}
use Rattle.stream.specs.declared.Item.TheVariants.{Network, Link, Change, Apply, Ask, End, UnknownKind, CutShort}
use Rattle.stream.specs.declared.Read.{Read}
use Rattle.stream.specs.Records.{number_at, stands, read_at, is_record}
use Rattle.splits.specs.Splitting.{Splits, stops, reads}
use Rattle.splits.specs.Encoding.{encode_numbers, encode, encode_all, Narrow, WellFormed, AllWellFormed, none, more, AreBytes}
use Rattle.splits.proofs.Stands.{StandsStill, at_the_end, unknown, cut, a_network, a_link, a_change, an_apply, an_ask, first, second, standing, stands_only}
use Rattle.splits.proofs.Splits.{both, stands_still, stopped, only_at_end}

-- ---- encoding what was read gives the bytes read

module _ (stream : List ℕ) where
  byte_more : (place next byte : ℕ) (rest : List ℕ) → next ≡ place + 1 → place < length stream → byte ≡ get_or stream place 0
      → take place stream ++ (byte ∷ rest) ≡ take next stream ++ rest
  byte_more place next byte rest on l e = rw (on, e, add-one, take-suc stream place 0, append_assoc)

  module _ (bytes : AreBytes stream) where
    number_more : (place next : ℕ) (rest : List ℕ) → next ≡ place + 2 → next ≤ length stream
        → take place stream ++ (number_at stream place / 256 ∷ number_at stream place % 256 ∷ rest) ≡ take next stream ++ rest
    number_more place next rest on l =
        let low = bytes.below (place + 1) in
        byte_more place (place + 1) (number_at stream place / 256) (number_at stream place % 256 ∷ rest) refl (omega arith) (omega arith)
        ∙ byte_more (place + 1) next (number_at stream place % 256) rest (omega arith) (omega arith) (omega arith)

    -- a kind byte and two numbers
    two_more : (place : ℕ) {kind : ℕ} (rest : List ℕ) → get_or stream place 0 ≡ kind → place + 1 + 4 ≤ length stream
        → take place stream ++ (kind ∷ encode_numbers (first stream place ∷ second stream place ∷ []) ++ rest) ≡ take (place + 1 + 4) stream ++ rest
    two_more place {kind} rest k l =
        byte_more place (place + 1) kind _ refl (omega arith) (sym k)
        ∙ number_more (place + 1) (place + 3) _ (omega arith) (omega arith)
        ∙ number_more (place + 3) (place + 1 + 4) rest (omega arith) l

    -- the bytes before a record, and those of the record, are the bytes before the next
    record_more : {place : ℕ} {read : Read} (rest : List ℕ) → StandsStill stream place read → is_record read.item ≡ true
        → take place stream ++ (encode read.item ++ rest) ≡ take read.next stream ++ rest
    record_more rest (at_the_end l) e = absurd (both e refl)
    record_more rest (unknown l n) e = absurd (both e refl)
    record_more rest (cut l k s) e = absurd (both e refl)
    record_more {place} rest (a_network k l) e = two_more place rest k l
    record_more {place} rest (a_link k l) e =
        byte_more place (place + 1) 2 _ refl (omega arith) (sym k)
        ∙ number_more (place + 1) (place + 3) _ (omega arith) (omega arith)
        ∙ number_more (place + 3) (place + 5) _ (omega arith) (omega arith)
        ∙ number_more (place + 5) (place + 1 + 6) rest (omega arith) l
    record_more {place} rest (a_change k l) e = two_more place rest k l
    record_more {place} rest (an_apply k l) e = byte_more place (place + 1 + 0) 4 rest (omega arith) (omega arith) (sym k)
    record_more {place} rest (an_ask k l) e =
        byte_more place (place + 1) 5 _ refl (omega arith) (sym k)
        ∙ number_more (place + 1) (place + 1 + 2) rest (omega arith) l

    bytes_read : {place : ℕ} {records : List Item} {stop : Read} → Splits stream place records stop
        → take place stream ++ encode_all records ≡ take stop.next stream
    unfolding encode_all
    bytes_read {place} (stops e) = rw (stands_still (standing stream place) e, append-nil)
    bytes_read {place} (reads {records = rest} e onward) = record_more (encode_all rest) (standing stream place) e ∙ bytes_read onward

    -- encoding the records that were read gives the bytes read
    pub encodes_read : {records : List Item} {stop : Read} → Splits stream 0 records stop → encode_all records ≡ take stop.next stream
    encodes_read s = bytes_read s

    -- a stream that is read to its end is the encoding of its records
    pub encodes_whole : {records : List Item} {stop : Read} → Splits stream 0 records stop → stop.item ≡ End → encode_all records ≡ stream
    encodes_whole {stop = stop} s end = encodes_read s ∙ take_all stop.next stream (only_at_end (stopped s) end)

-- ---- reading what was encoded gives the records back

module _ (front : List ℕ) where
  -- what stands behind the bytes in front
  byte_there : (tail : List ℕ) (i : ℕ) → get_or (front ++ tail) (length front + i) 0 ≡ get_or tail i 0
  byte_there tail i = get_or-append-add front tail i 0

  number_there : (tail : List ℕ) (i : ℕ) → number_at (front ++ tail) (length front + i) ≡ number_at tail i
  number_there tail i =
      let next : length front + i + 1 ≡ length front + (i + 1) = omega arith in
      rw (byte_there tail i, next, byte_there tail (i + 1))

  number_back : (tail : List ℕ) (i n : ℕ) → number_at tail i ≡ n / 256 * 256 + n % 256 → number_at (front ++ tail) (length front + i) ≡ n
  number_back tail i n e = number_there tail i ∙ e ∙ omega arith

  -- an encoded record behind the bytes in front is read as itself
  read_there : (item : Item) (rest : List ℕ) → WellFormed item
      → ◌≡◌ {A = Read} (record { item = item; next = length front + length (encode item) }) (read_at (front ++ (encode item ++ rest)) (length front))
  read_there (Network nodes root) rest w =
      let tail = encode (Network nodes root) ++ rest in
      rw (number_back tail 1 nodes refl, number_back tail 3 root refl, add_assoc) at
      (stands_only (front ++ tail) (length front) (a_network (get_or-append_seam front 1 _ 0) (omega (arith, length-append front tail))))
  read_there (Link start end cost) rest w =
      let tail = encode (Link start end cost) ++ rest in
      rw (number_back tail 1 start refl, number_back tail 3 end refl, number_back tail 5 cost refl, add_assoc) at
      (stands_only (front ++ tail) (length front) (a_link (get_or-append_seam front 2 _ 0) (omega (arith, length-append front tail))))
  read_there (Change link cost) rest w =
      let tail = encode (Change link cost) ++ rest in
      rw (number_back tail 1 link refl, number_back tail 3 cost refl, add_assoc) at
      (stands_only (front ++ tail) (length front) (a_change (get_or-append_seam front 3 _ 0) (omega (arith, length-append front tail))))
  read_there Apply rest w =
      let tail = encode Apply ++ rest in
      rw add_assoc at
      (stands_only (front ++ tail) (length front) (an_apply (get_or-append_seam front 4 _ 0) (omega (arith, length-append front tail))))
  read_there (Ask node) rest w =
      let tail = encode (Ask node) ++ rest in
      rw (number_back tail 1 node refl, add_assoc) at
      (stands_only (front ++ tail) (length front) (an_ask (get_or-append_seam front 5 _ 0) (omega (arith, length-append front tail))))
  read_there End rest w = absurd w
  read_there (UnknownKind place) rest w = absurd w
  read_there (CutShort place) rest w = absurd w

is_record_lem : (item : Item) → WellFormed item → is_record item ≡ true
is_record_lem (Network nodes root) w = refl
is_record_lem (Link start end cost) w = refl
is_record_lem (Change link cost) w = refl
is_record_lem Apply w = refl
is_record_lem (Ask node) w = refl
is_record_lem End w = absurd w
is_record_lem (UnknownKind place) w = absurd w
is_record_lem (CutShort place) w = absurd w

-- `reads` and `stops`, for a read that is known
reads_as : {stream : List ℕ} {place : ℕ} {records : List Item} {read stop : Read} → read ≡ read_at stream place → is_record read.item ≡ true
    → Splits stream read.next records stop → Splits stream place (read.item ∷ records) stop
reads_as {stream} {place} {records} {read} {stop} e =
    subst (λ (r : Read). is_record r.item ≡ true → Splits stream r.next records stop → Splits stream place (r.item ∷ records) stop) (sym e) reads

stops_as : {stream : List ℕ} {place : ℕ} {read : Read} → read ≡ read_at stream place → is_record read.item ≡ false → Splits stream place [] read
stops_as {stream} {place} e = subst (λ (r : Read). is_record r.item ≡ false → Splits stream place [] r) (sym e) stops

reads_behind : (front : List ℕ) {items : List Item} → AllWellFormed items
    → Splits (front ++ encode_all items) (length front) items (stands End (length (front ++ encode_all items)))
unfolding encode_all
reads_behind front none =
    rw append-nil (stops_as (stands_only front (length front) (at_the_end (omega arith))) refl)
reads_behind front (more {item} {items} w ws) =
    reads_as (read_there front item (encode_all items) w) (is_record_lem item w)
    (rw (append_assoc, length-append front (encode item)) at (reads_behind (front ++ encode item) ws))

-- reading the encoding of records gives those records and then the end
pub reads_encoded : {items : List Item} → AllWellFormed items → Splits (encode_all items) 0 items (stands End (length (encode_all items)))
reads_encoded well = reads_behind [] well

-- ---- records and their bytes fit each other

pub number_fits : {stream : List ℕ} → AreBytes stream → (place : ℕ) → number_at stream place < 65536
number_fits bytes place = omega (arith, bytes.below place, bytes.below (place + 1))

read_fits : {stream : List ℕ} → AreBytes stream → {place : ℕ} {read : Read} → StandsStill stream place read → is_record read.item ≡ true
    → WellFormed read.item
read_fits bytes (at_the_end l) e = absurd (both e refl)
read_fits bytes (unknown l n) e = absurd (both e refl)
read_fits bytes (cut l k s) e = absurd (both e refl)
read_fits bytes (a_network k l) e = (number_fits bytes _, (number_fits bytes _, tt))
read_fits bytes (a_link k l) e = (number_fits bytes _, (number_fits bytes _, (number_fits bytes _, tt)))
read_fits bytes (a_change k l) e = (number_fits bytes _, (number_fits bytes _, tt))
read_fits bytes (an_apply k l) e = tt
read_fits bytes (an_ask k l) e = (number_fits bytes _, tt)

-- the records of a stream of bytes are well formed
pub splits_fit : {stream : List ℕ} → AreBytes stream → {place : ℕ} {records : List Item} {stop : Read} → Splits stream place records stop
    → AllWellFormed records
splits_fit bytes (stops e) = none
splits_fit {stream} bytes {place} (reads e onward) = more (read_fits bytes (standing stream place) e) (splits_fit bytes onward)

byte_then : {byte : ℕ} {rest : List ℕ} → byte < 256 → AreBytes rest → AreBytes (byte ∷ rest)
byte_then {byte} {rest} l bytes = record { below = at }
  where
    at : (i : ℕ) → get_or (byte ∷ rest) i 0 < 256
    at zero = l
    at (suc i) = bytes.below i

numbers_then : (numbers : List ℕ) {rest : List ℕ} → Narrow numbers → AreBytes rest → AreBytes (encode_numbers numbers ++ rest)
numbers_then [] w bytes = bytes
numbers_then (n ∷ numbers) w bytes = byte_then (omega (arith, w.0)) (byte_then (omega arith) (numbers_then numbers w.1 bytes))

encode_then : (item : Item) {rest : List ℕ} → WellFormed item → AreBytes rest → AreBytes (encode item ++ rest)
encode_then (Network nodes root) w bytes = byte_then (omega arith) (numbers_then (nodes ∷ root ∷ []) w bytes)
encode_then (Link start end cost) w bytes = byte_then (omega arith) (numbers_then (start ∷ end ∷ cost ∷ []) w bytes)
encode_then (Change link cost) w bytes = byte_then (omega arith) (numbers_then (link ∷ cost ∷ []) w bytes)
encode_then Apply w bytes = byte_then (omega arith) bytes
encode_then (Ask node) w bytes = byte_then (omega arith) (numbers_then (node ∷ []) w bytes)
encode_then End w bytes = absurd w
encode_then (UnknownKind place) w bytes = absurd w
encode_then (CutShort place) w bytes = absurd w

-- well-formed records encode to bytes
pub encoded_bytes : {items : List Item} → AllWellFormed items → AreBytes (encode_all items)
unfolding encode_all
encoded_bytes none = record { below = at }
  where
    at : (i : ℕ) → get_or [] i 0 < 256
    at zero = omega arith
    at (suc i) = omega arith
encoded_bytes (more {item} w ws) = encode_then item w (encoded_bytes ws)
