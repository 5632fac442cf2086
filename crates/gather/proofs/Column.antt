-- A column as the walk of `gather` has it: a local array that is made blank, lies in memory while rows are stored in it, and
-- is read whole into the `Rows`. Assumes `Logic`.
use mathlib.Core.Path.{refl, sym, subst}
use mathlib.Core.List.{List, [], ◌∷◌, map, map-id}
use Prim.Native.Nat.{ℕ, zero, suc, ◌<◌, ◌^◌}
use seplogic.Ra.Ura.{Ura}
use Rattle.std.specs.Borrow.{full_share}
use lib.Dec.{T, lit<}
use lib.ListN.{replicate, length-replicate}
use mir.Syntax.{Ty, ty_array, ty_int, w16, w64}
use mir.Val.{Val, vint, WT, has_ty}
use base.Logic.{ent, guard, guard_i}
use base.Fml.{Fml, fsep, fat}
use types.Logic.{Logic, sem}
use types.Kit.{‵, ◌$◌, ◌∵◌, !, qed, by, move, rewrite, fsplit, fjoin, fpick, fpack, done}
use denote.RattleType.{RattleType}
use denote.Laws.{Is, shows}
use denote.Shadow.{shadow}
use denote.Memory.{mem, cell_at, part_of}
use denote.Plain.{uint_Makes, uint_Lawful, uint_vals, uint_Tells}
use denote.Builtin.{u16}
use denote.Array.{Array, each, array_val, Array-Lawful, Array-Makes, Array-Tells}
use denote.Steps.{owned, facts}
use Rattle.gather.specs.declared.rows.Rows.{Rows}
use Rattle.gather.specs.Most.{most_read}
use Rattle.gather.specs.Gathering.{blank}
use Rattle.gather.specs.contracts.rows.Rows as R

abbrev pub column : RattleType
column = Array u16 most_read

abbrev pub column_ty : Ty
column_ty = ty_array (ty_int w16) most_read

-- a column's machine value, and what says that it is one
abbrev pub column_val : List ℕ → Val
column_val xs = array_val (map (λ (x : ℕ). vint w16 x) xs)

abbrev pub IsColumn : List ℕ → Type 0
IsColumn xs = Is column xs (column_val xs ∷ [])

-- a column in memory, in the local l
abbrev pub Lies : ℕ → List ℕ → Fml
Lies l xs = (mem column).own_at xs l 0

-- ---- blank

abbrev pub blank_val : Val
blank_val = array_val (replicate most_read (vint w16 0))

zeros : (k : ℕ) → shadow (each ℕ u16.own_val (replicate k 0) (replicate k (vint w16 0)))
zeros zero = tt
zeros (suc k) = ((refl, lit< tt), zeros k)

pub blank_is : Is column blank (blank_val ∷ [])
blank_is = (replicate most_read (vint w16 0), ((refl, length-replicate {A = ℕ} most_read 0), zeros most_read))

-- ---- in a local

module _ {M : Type 1} {𝓤 : Ura M} (𝓛 : Logic 𝓤) where
  open 𝓛 use {H}

  pub column_typed : (xs : List ℕ) (u : Val) → Is column xs (u ∷ []) → T (has_ty column_ty u) × WT u
  column_typed xs u is = ((Array-Lawful 𝓛 u16 (uint_Lawful 𝓛 w16) most_read).typed xs (u ∷ []) is).0

  pub blank_lies : (l : ℕ) → ent 𝓤 (H.at full_share column_ty l 0 blank_val) (sem 𝓛 (Lies l blank))
  unfolding part_of
  blank_lies l =
      qed 𝓛 (‵ (fat full_share column_ty l 0 blank_val) ∷ []) ∵ owned ! column (Is column) (Array-Makes 𝓛 u16 (uint_Makes 𝓛 w16) most_read) blank (blank_val ∷ []) blank_is $ move ! (1 ∷ 0 ∷ []) $ fjoin ! $
      fpack ! (List Val) (λ us. fsep (cell_at full_share column.mir us l 0) (column.own_val blank us)) (blank_val ∷ []) $ done !

  pub lies_whole : (l : ℕ) (xs : List ℕ) → ent 𝓤 (sem 𝓛 (Lies l xs)) (guard 𝓤 (IsColumn xs) (H.at full_share column_ty l 0 (column_val xs)))
  unfolding part_of
  lies_whole l xs =
      qed 𝓛 (‵ (Lies l xs) ∷ []) ∵ fpick ! (λ us. fsplit ! $ move ! (1 ∷ []) $ facts ! column (Is column) (shows 𝓛 column) xs us (λ is.
      rewrite ! 0 (λ (ws : List Val). ‵ (cell_at full_share column.mir ws l 0)) (Array-Tells u16 (uint_vals w16) (uint_Tells w16) most_read xs us is) refl $
      by ! (guard_i 𝓤 (IsColumn xs) (H.at full_share column_ty l 0 (column_val xs)) (subst (Is column xs) (Array-Tells u16 (uint_vals w16) (uint_Tells w16) most_read xs us is) is))))

-- ---- both columns and their count, put together

as_field : (xs : List ℕ) → IsColumn xs → Is column (map (λ x. x) xs) (column_val xs ∷ [])
as_field xs is = subst (λ (ys : List ℕ). Is column ys (column_val xs ∷ [])) (sym (map-id xs)) is

pub rows_are : (r : Rows) → IsColumn r.link → IsColumn r.cost → r.count < 2 ^ 64 → Is R.the_row r (array_val (column_val r.link ∷ column_val r.cost ∷ vint w64 r.count ∷ []) ∷ [])
rows_are r links_are costs_are fits =
    ((column_val r.link ∷ [], (column_val r.cost ∷ [], (vint w64 r.count ∷ [], tt))), (refl, (links_are, (costs_are, ((refl, fits), tt)))))
