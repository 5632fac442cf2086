-- What is left to look at, item by item. Assumes nothing.
use mathlib.Core.Path.{◌≡◌, refl, sym, ◌∙◌}
use mathlib.Core.List.{List}
use Prim.Native.Nat.{ℕ, zero, suc, ◌+◌, ◌≤◌, ◌<◌}
use native.Mathlib.Omega.{arith}
use borrow.Author.Tests.{le-leb, lt-leb}
use Rattle.std.specs.Prelude.{Option, None}
use Rattle.stream.specs.declared.Read.{Read}
use Rattle.stream.specs.Records.{read_at}
use Rattle.earlier.specs.Earlier.{behind, looked, earlier_change}

-- the items from a place on, enough of them to come to the other place, give what all give
pub record Looking (stream : List ℕ) (place link at : ℕ) (found : Option ℕ) : Type 0 where
  pub items : ℕ
  pub enough : place ≤ at + items
  pub rest : looked stream place link items at found ≡ earlier_change stream place link

pub looking_none : (stream : List ℕ) (place link : ℕ) → Looking stream place link 0 None
looking_none stream place link = record { items = place; enough = omega arith; rest = refl }

module _ (stream : List ℕ) (place link : ℕ) where
  looked_end : (items : ℕ) {at : ℕ} {found : Option ℕ} → place ≤ at → looked stream place link items at found ≡ found
  unfolding looked
  looked_end zero l = refl
  looked_end (suc items) {at} l = rw (le-leb place at l) refl

  looked_stop : (items at : ℕ) (found : Option ℕ) {read : Read} → read ≡ read_at stream at → at < place → place ≤ at + items → read.next ≤ at
      → looked stream place link items at found ≡ behind read.item at link found
  unfolding looked
  looked_stop zero at found is l m s = absurd (omega arith)
  looked_stop (suc items) at found {read} is l m s = rw (lt-leb place at l, ← is, le-leb read.next at s) refl

  looked_on : (items at : ℕ) (found : Option ℕ) {read : Read} → read ≡ read_at stream at → at < place → at < read.next
      → looked stream place link (suc items) at found ≡ looked stream place link items read.next (behind read.item at link found)
  unfolding looked
  looked_on items at found {read} is l s = rw (lt-leb place at l, ← is, lt-leb read.next at s) refl

module _ {stream : List ℕ} {place link at : ℕ} {found : Option ℕ} (w : Looking stream place link at found) where
  pub looking_end : place ≤ at → found ≡ earlier_change stream place link
  looking_end l = sym (looked_end stream place link w.items l) ∙ w.rest

  module _ {read : Read} (is : read ≡ read_at stream at) (l : at < place) {r : Option ℕ} (e : r ≡ behind read.item at link found) where
    pub looking_stops : read.next ≤ at → r ≡ earlier_change stream place link
    looking_stops s = e ∙ sym (looked_stop stream place link w.items at found is l w.enough s) ∙ w.rest

    pub looking_more : at < read.next → Looking stream place link read.next r
    looking_more s = on w.items w.enough w.rest
      where
        on : (items : ℕ) → place ≤ at + items → looked stream place link items at found ≡ earlier_change stream place link
            → Looking stream place link read.next r
        on zero m q = absurd (omega arith)
        on (suc items) m q = record { items = items; enough = omega arith; rest = rw e (sym (looked_on stream place link items at found is l s) ∙ q) }
