-- One node more on the list of changed nodes. Assumes nothing.
use mathlib.Core.Path.{◌≡◌, refl, sym, ap, ◌∙◌, subst}
use mathlib.Core.Bool.{Bool, true, false, ◌&&◌, not, cond}
use mathlib.Core.List.{List, [], ◌∷◌, ◌++◌, append_assoc, append-nil}
use Prim.Native.Nat.{ℕ, zero, suc, ◌+◌, ◌≤◌, ◌<◌}
use native.Mathlib.Numerals.{add-one}
use native.Mathlib.Omega.{arith}
use Rattle.std.proofs.Math.Bool.{and_assoc}
use lib.Dec.{eqb}
use lib.ListN.{length, get_or, set, drop, length-append}
use lib.Seq.{set-append_seam, drop-cons}
use Rattle.rules.specs.Fit.{Rows}
use Rattle.rules.specs.Columns.{Arrays, Whole, narrow, rows_in, no_link, most_nodes}
use Rattle.rules.specs.Lent.{row_at}
use Rattle.rules.specs.declared.Row.{Row}
use Rattle.rules.specs.Jobs.{written, differs, changed_below}
use Rattle.rules.specs.declared.Profile.{Profile}
use Rattle.rules.proofs.Logic.{get_d_any}
use Rattle.changed.specs.Listed.{ListedBelow}

-- the code's test of two rows is the rules'
pub differs_by : {old new : Arrays} → Whole old → Whole new → {v : ℕ} → v < most_nodes → {a b : Row} → a ≡ row_at old v → b ≡ row_at new v
    → {differ : Bool} → differ ≡ not (eqb a.dist b.dist && (eqb a.parent b.parent && eqb a.first b.first))
    → (p : Profile) → differs (rows_in p old) (rows_in p new) v ≡ differ
unfolding differs
differs_by {old} {new} o n {v} l a b e p =
    rw (
      e,
      a,
      b,
      get_d_any old.dist v 0 p.mark (omega (arith, o.dist)),
      get_d_any new.dist v 0 p.mark (omega (arith, n.dist)),
      get_d_any old.parent v 0 no_link (omega (arith, o.parent)),
      get_d_any new.parent v 0 no_link (omega (arith, n.parent)),
      get_d_any old.first v 0 no_link (omega (arith, o.first)),
      get_d_any new.first v 0 no_link (omega (arith, n.first)),
      and_assoc,
    ) refl

-- one entry more at the front
written_more : (front list : List ℕ) (x : ℕ) → length front < length list → set (written front list) (length front) x ≡ written (front ++ (x ∷ [])) list
written_more front list x l =
    let next : length (front ++ (x ∷ [])) ≡ suc (length front) = length-append front (x ∷ []) ∙ add-one (length front) in
    ap (λ (rest : List ℕ). set (front ++ rest) (length front) x) (drop-cons list (length front) 0 l)
    ∙ set-append_seam front (get_or list (length front) 0) (drop (suc (length front)) list) x
    ∙ sym (append_assoc front (x ∷ []) (drop (suc (length front)) list))
    ∙ ap (λ (n : ℕ). (front ++ (x ∷ [])) ++ drop n list) (sym next)

module _ (old new : Rows) where
  few : (n : ℕ) → length (changed_below old new n) ≤ n
  unfolding changed_below
  few zero = omega arith
  few (suc n) = at (differs old new n) (few n)
    where
      at : (b : Bool) → length (changed_below old new n) ≤ n → length (changed_below old new n ++ cond b (n ∷ []) []) ≤ suc n
      at true h = omega (arith, length-append (changed_below old new n) (n ∷ []))
      at false h = omega (arith, length-append (changed_below old new n) [])

module _ (old new : Rows) where
  one_more : (n : ℕ) (b : Bool) → differs old new n ≡ b → changed_below old new (n + 1) ≡ changed_below old new n ++ cond b (n ∷ []) []
  unfolding changed_below
  one_more n b e = ap (changed_below old new) (add-one n) ∙ ap (λ (c : Bool). changed_below old new n ++ cond c (n ∷ []) []) e

pub listed_none : {old new : Arrays} (list : List ℕ) → ListedBelow old new 0 list list 0
unfolding changed_below
listed_none list = record { front = λ p. refl; counted = λ p. refl }

pub listed_end : {old new : Arrays} {n m count : ℕ} {list listed : List ℕ} → n ≡ m → ListedBelow old new n list listed count → ListedBelow old new m list listed count
listed_end {old} {new} {count = count} {list = list} {listed = listed} e h = subst (λ (n : ℕ). ListedBelow old new n list listed count) e h

module _ {old new : Arrays} {n count : ℕ} {list listed : List ℕ} (h : ListedBelow old new n list listed count) where
  before : Profile → List ℕ
  before p = changed_below (rows_in p old) (rows_in p new) n

  pub count_few : count ≤ n
  count_few = omega (arith, h.counted narrow, few (rows_in narrow old) (rows_in narrow new) n)

  pub listed_more : ((p : Profile) → differs (rows_in p old) (rows_in p new) n ≡ true) → count < length list
      → ListedBelow old new (n + 1) list (set listed count n) (count + 1)
  unfolding before
  listed_more d l = record { front = front; counted = counted }
    where
      more : (p : Profile) → changed_below (rows_in p old) (rows_in p new) (n + 1) ≡ before p ++ (n ∷ [])
      more p = one_more (rows_in p old) (rows_in p new) n true (d p)

      front : (p : Profile) → set listed count n ≡ written (changed_below (rows_in p old) (rows_in p new) (n + 1)) list
      front p =
          ap (λ (x : List ℕ). set x count n) (h.front p) ∙ ap (λ (c : ℕ). set (written (before p) list) c n) (h.counted p)
          ∙ written_more (before p) list n (omega (arith, h.counted p)) ∙ ap (λ (x : List ℕ). written x list) (sym (more p))

      counted : (p : Profile) → count + 1 ≡ length (changed_below (rows_in p old) (rows_in p new) (n + 1))
      counted p = ap (λ (c : ℕ). c + 1) (h.counted p) ∙ sym (length-append (before p) (n ∷ [])) ∙ ap length (sym (more p))

  pub listed_same : ((p : Profile) → differs (rows_in p old) (rows_in p new) n ≡ false) → ListedBelow old new (n + 1) list listed count
  unfolding before
  listed_same d =
      record {
        front = λ p. h.front p ∙ ap (λ (x : List ℕ). written x list) (sym (same p));
        counted = λ p. h.counted p ∙ ap length (sym (same p));
      }
    where
      same : (p : Profile) → changed_below (rows_in p old) (rows_in p new) (n + 1) ≡ before p
      same p = one_more (rows_in p old) (rows_in p new) n false (d p) ∙ append-nil (before p)
