-- What a kind byte decides, and what the reader gives, case by case. Assumes nothing.
use mathlib.Core.Path.{◌≡◌, refl, sym, ap, ◌∙◌}
use mathlib.Core.Bool.{Bool, true, false, cond}
use mathlib.Core.List.{List, [], ◌∷◌}
use Prim.Native.Nat.{ℕ, ◌+◌, ◌/◌, ◌≤◌, ◌<◌}
use native.Mathlib.Omega.{arith}
use native.Mathlib.Decide.{ℕ_discrete}
use lib.Dec.{eqb, leb}
use borrow.Author.Tests.{ne_eqb, le-leb, lt-leb}
use lib.ListN.{length, get_or}
use Rattle.std.specs.Prelude.{Option, None, Some}
use Rattle.stream.specs.declared.Item.{Item}
use Rattle.stream.specs.declared.Item.TheVariants.{Network, Link, Change, Apply, Ask, End, UnknownKind, CutShort}
use Rattle.stream.specs.declared.Read.{Read}
use Rattle.stream.specs.Records.{body_length, bytes_in, number_at, numbers_at, Told, given, ended, refused, told, told_body, told_at, next_by, record_at, stands, read_body, read_at, GivenAt}

-- no record has this kind
pub record NoKind (kind : ℕ) : Type 0 where
  pub not_network : ¬ (kind ≡ 1)
  pub not_link : ¬ (kind ≡ 2)
  pub not_change : ¬ (kind ≡ 3)
  pub not_apply : ¬ (kind ≡ 4)
  pub not_ask : ¬ (kind ≡ 5)

-- what a `match` on the kind says in its last arm
pub no_kind : {kind : ℕ} → ((((Unit {0} × ¬ (kind ≡ 1)) × ¬ (kind ≡ 2)) × ¬ (kind ≡ 3)) × ¬ (kind ≡ 4)) × ¬ (kind ≡ 5) → NoKind kind
no_kind rest =
    record { not_network = rest.0.0.0.0.1; not_link = rest.0.0.0.1; not_change = rest.0.0.1; not_apply = rest.0.1; not_ask = rest.1 }

module _ {kind : ℕ} (none : NoKind kind) where
  pub no_length : None ≡ body_length kind
  no_length =
      simp (ne_eqb kind 1 none.not_network, ne_eqb kind 2 none.not_link, ne_eqb kind 3 none.not_change, ne_eqb kind 4 none.not_apply, ne_eqb kind 5 none.not_ask)

  pub no_record : (stream : List ℕ) (place : ℕ) → UnknownKind place ≡ record_at kind stream place
  no_record stream place =
      simp (ne_eqb kind 1 none.not_network, ne_eqb kind 2 none.not_link, ne_eqb kind 3 none.not_change, ne_eqb kind 4 none.not_apply, ne_eqb kind 5 none.not_ask)

-- ---- what stands at a place, case by case

module _ (stream : List ℕ) (place : ℕ) where
  pub reads_end : length stream ≤ place → stands End place ≡ read_at stream place
  unfolding read_at
  reads_end past = rw (le-leb (length stream) place past)

  module _ (inside : place < length stream) where
    pub reads_unknown : body_length (get_or stream place 0) ≡ None → stands (UnknownKind place) place ≡ read_at stream place
    unfolding read_at
    reads_unknown none = rw (lt-leb (length stream) place inside, none)

    module _ {n : ℕ} (known : body_length (get_or stream place 0) ≡ Some n) where
      pub reads_cut : length stream < place + 1 + n → stands (CutShort place) place ≡ read_at stream place
      unfolding read_at
      reads_cut cut = rw (lt-leb (length stream) place inside, known, lt-leb (place + 1 + n) (length stream) cut)

      pub reads_record : place + 1 + n ≤ length stream
          → ◌≡◌ {A = Read} (record { item = record_at (get_or stream place 0) stream place; next = place + 1 + n }) (read_at stream place)
      unfolding read_at
      reads_record whole = rw (lt-leb (length stream) place inside, known, le-leb (place + 1 + n) (length stream) whole)

no_bytes : {n : ℕ} → Some n ≡ None → ⊥
no_bytes e = let z : ◌≡◌ {A = ℕ} 0 1 = cc in omega arith

-- ---- what is read tells what 01 says

module _ (stream : List ℕ) (place : ℕ) where
  one_on : place + 1 + 2 ≡ place + 3
  one_on = omega arith

  two_on : place + 1 + 2 + 2 ≡ place + 5
  two_on = omega arith

  -- a record tells its kind, and the numbers of its body
  record_tells : (kind n : ℕ) → body_length kind ≡ Some n → told (record_at kind stream place) ≡ given kind (numbers_at stream (place + 1) (n / 2))
  record_tells kind n e = at (ℕ_discrete kind 1) (ℕ_discrete kind 2) (ℕ_discrete kind 3) (ℕ_discrete kind 4) (ℕ_discrete kind 5)
    where
      long : {k : ℕ} → kind ≡ k → n ≡ bytes_in (body_length k)
      long q = sym (ap bytes_in e) ∙ ap (λ (k : ℕ). bytes_in (body_length k)) q

      at : Dec (kind ≡ 1) → Dec (kind ≡ 2) → Dec (kind ≡ 3) → Dec (kind ≡ 4) → Dec (kind ≡ 5)
          → told (record_at kind stream place) ≡ given kind (numbers_at stream (place + 1) (n / 2))
      at (yes q) b c d f = rw (long q, q) (ap (λ (p : ℕ). given 1 (number_at stream (place + 1) ∷ number_at stream p ∷ [])) (sym one_on))
      at (no a) (yes q) c d f =
          rw (long q, q) (λ i. given 2 (number_at stream (place + 1) ∷ number_at stream (sym one_on i) ∷ number_at stream (sym two_on i) ∷ []))
      at (no a) (no b) (yes q) d f = rw (long q, q) (ap (λ (p : ℕ). given 3 (number_at stream (place + 1) ∷ number_at stream p ∷ [])) (sym one_on))
      at (no a) (no b) (no c) (yes q) f = rw (long q, q) refl
      at (no a) (no b) (no c) (no d) (yes q) = rw (long q, q) refl
      at (no a) (no b) (no c) (no d) (no f) =
          absurd (no_bytes (sym e ∙ sym (no_length (record { not_network = a; not_link = b; not_change = c; not_apply = d; not_ask = f }))))

  -- a read tells this, and its next place is the one behind it
  abbrev Agrees : Read → Told → Type 0
  Agrees read t = (told read.item ≡ t) × (read.next ≡ next_by t place)

  body_agrees : (b : Option ℕ) → body_length (get_or stream place 0) ≡ b → Agrees (read_body b stream place) (told_body b stream place)
  body_agrees None e = (refl, refl)
  body_agrees (Some n) e = at (leb (place + 1 + n) (length stream))
    where
      at : (whole : Bool) → Agrees (cond whole (record { item = record_at (get_or stream place 0) stream place; next = place + 1 + n }) (stands (CutShort place) place))
          (cond whole (given (get_or stream place 0) (numbers_at stream (place + 1) (n / 2))) (refused 22 place))
      at true = (record_tells (get_or stream place 0) n e, ap (λ (b : Option ℕ). place + 1 + bytes_in b) (sym e))
      at false = (refl, refl)

  agrees : Agrees (read_at stream place) (told_at stream place)
  unfolding read_at told_at
  agrees = at (leb (length stream) place)
    where
      at : (past : Bool) → Agrees (cond past (stands End place) (read_body (body_length (get_or stream place 0)) stream place))
          (cond past ended (told_body (body_length (get_or stream place 0)) stream place))
      at true = (refl, refl)
      at false = body_agrees (body_length (get_or stream place 0)) refl

  pub is_given_lem : {read : Read} → read ≡ read_at stream place → GivenAt stream place read
  is_given_lem e = rw e (record { tells = agrees.0; next_place = agrees.1 })

-- what an item tells says which it is
item_of : Told → Item
item_of (given kind numbers) =
    cond (eqb kind 1) (Network (get_or numbers 0 0) (get_or numbers 1 0))
    (cond (eqb kind 2) (Link (get_or numbers 0 0) (get_or numbers 1 0) (get_or numbers 2 0))
    (cond (eqb kind 3) (Change (get_or numbers 0 0) (get_or numbers 1 0))
    (cond (eqb kind 4) Apply
    (Ask (get_or numbers 0 0)))))
item_of ended = End
item_of (refused number place) = cond (eqb number 21) (UnknownKind place) (CutShort place)

item_back : (item : Item) → item_of (told item) ≡ item
unfolding item_of
item_back (Network nodes root) = refl
item_back (Link start end cost) = refl
item_back (Change link cost) = refl
item_back Apply = refl
item_back (Ask node) = refl
item_back End = refl
item_back (UnknownKind place) = refl
item_back (CutShort place) = refl

pub told_once : {a b : Item} → told a ≡ told b → a ≡ b
told_once {a} {b} e = sym (item_back a) ∙ ap item_of e ∙ item_back b

-- so one read is given at a place
pub given_once : {stream : List ℕ} {place : ℕ} {a b : Read} → GivenAt stream place a → GivenAt stream place b → a ≡ b
given_once {a = a} {b} g h =
    let item = told_once (g.tells ∙ sym h.tells) in
    let next = g.next_place ∙ sym h.next_place in
    λ i. record { item = item i; next = next i }

pub given_is : {stream : List ℕ} {place : ℕ} {read : Read} → GivenAt stream place read → read ≡ read_at stream place
given_is {stream} {place} g = given_once g (is_given_lem stream place refl)
