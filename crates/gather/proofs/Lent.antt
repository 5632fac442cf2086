-- A local that a walk lends by `&mut` to one call, for a lifetime that it makes, and has back at its last value.
-- Assumes `Logic`.
use mathlib.Core.List.{[], ◌∷◌}
use Prim.Native.Nat.{ℕ}
use seplogic.Ra.Ura.{Ura}
use Rattle.std.specs.Borrow.{full_share}
use mir.Syntax.{Lifetime}
use mir.Val.{vptr}
use base.Logic.{SProp, ent, sep, ex}
use base.Fml.{GName, Fml, fsep, flft, flent, fres}
use types.Logic.{Logic, sem}
use types.Kit.{‵, ◌⊛◌, some, later, ◌$◌, ◌∵◌, !, qed, move, use1, use3, split, pick, fjoin, await, updating, now as at_once, show, done}
use types.SemTy.{Body}
use types.Tokens.{lft_new, lft_end}
use denote.RattleType.{RattleType}
use denote.Memory.{mem}
use denote.Ref.{MutBor, MutRef}
use denote.Lend.{lends_ref, ref_back}

-- a loan: its lifetime, and the ghost name under which the value is tracked
pub record Loan : Type 0 where
  pub lft : ℕ
  pub name : GName

module _ (R : RattleType) (b o : ℕ) where
  abbrev pub lent_ref : Loan → R.Denot → MutBor R.Denot
  lent_ref loan x = record { ref_ptr = (b, o); ghost_name = loan.name; now = x }

  -- what is lent, the lifetime's token and the reference, and what the lender keeps
  abbrev pub Lent : Lifetime → Loan → R.Denot → Fml
  Lent ℓ loan x = fsep (flft (loan.lft ∷ []) full_share) ((MutRef ℓ (loan.lft ∷ []) R).own_val (lent_ref loan x) (vptr b o ∷ []))

  abbrev pub Kept : Loan → Fml
  Kept loan = flent (loan.lft ∷ []) (Body (mem R) b o loan.name)

  module _ {M : Type 1} {𝓤 : Ura M} (𝓛 : Logic 𝓤) where
    open 𝓛 use {H, A}

    abbrev Out : Lifetime → R.Denot → Loan → SProp 𝓤
    Out ℓ x loan = sep 𝓤 (sem 𝓛 (Lent ℓ loan x)) (sem 𝓛 (Kept loan))

    pub lends : (ℓ : Lifetime) (x : R.Denot) → ent 𝓤 (sem 𝓛 ((mem R).own_at x b o)) (H.⇛ (ex 𝓤 (Out ℓ x)))
    lends ℓ x =
        qed 𝓛 (‵ ((mem R).own_at x b o) ∷ []) ∵ updating ! $ lft_new ! tt (λ ν. move ! (1 ∷ []) $
        use1 𝓛 (later (some (λ (γ : GName). ‵ ((MutRef ℓ (ν ∷ []) R).own_val (lent_ref (record { lft = ν; name = γ }) x) (vptr b o ∷ [])) ⊛ ‵ (Kept (record { lft = ν; name = γ }))))) (lends_ref 𝓛 R ℓ (ν ∷ []) x b o) $ await ! tt $ pick ! (λ γ.
        split ! $ move ! (2 ∷ 0 ∷ []) $ fjoin ! $ at_once ! $ show ! (Out ℓ x) (record { lft = ν; name = γ }) $ done !))

    pub comes_back : (loan : Loan) (x : R.Denot) → ent 𝓤 (sep 𝓤 (A.lft (loan.lft ∷ []) full_share) (sep 𝓤 (sem 𝓛 (Kept loan)) (A.res loan.name (R.coded.code x)))) (H.⇛ (sem 𝓛 ((mem R).own_at x b o)))
    comes_back loan x =
        qed 𝓛 (‵ (flft (loan.lft ∷ []) full_share) ∷ ‵ (Kept loan) ∷ ‵ (fres loan.name (R.coded.code x)) ∷ []) ∵ updating ! $ lft_end ! tt $
        use3 𝓛 (later (‵ ((mem R).own_at x b o))) (ref_back 𝓛 R (loan.lft ∷ []) loan.name x b o) $ await ! tt $ at_once ! $ done !
