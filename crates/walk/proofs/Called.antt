-- A call in a walk, of a function whose contract says a fact φ of its result r and nothing of its parameters at exit. Once
-- it has returned, the walk has r, its machine value u and the fact, and at the head of the context what r owns and the tokens
-- of the lifetimes that were lent. Assumes `Logic`, and that the table of calls is monotone under a frame.
use mathlib.Core.List.{List, [], ◌∷◌}
use seplogic.Ra.Ura.{Ura}
use mir.Syntax.{Callee, Place, Opd as Operand, Body, seq, call}
use mir.Val.{Val}
use base.Logic.{ent, via, snd∗, ex_e, id⊢}
use prog.Wp.{Env, Calls, Loops}
use types.Logic.{Logic, sem}
use contract.Monad.{fact}
use sound.WpLaws.{FmC}
use types.Kit.{Item, ‵, raw, ◌⊛◌, mean, some, later, Post, runs, lands, Seq, ◌$◌, move, use1, split, pick, await}
use types.Run.{Opds}
use denote.Signature.{type_at}
use denote.Steps.{heard}
use denote.Triple.Call.{calls_at}
use denote.Triple.Clauses.{Clauses, Ended, closing, ensured, lasts}
use denote.Triple.End.{Outs}
use denote.Triple.Entry.{Res, alive}
use denote.Triple.Spec.{triple_of}
use denote.Triple.Statement.{Triple}

module _ {M : Type 1} {𝓤 : Ura M} {𝓛 : Logic 𝓤} {K : Type 0} {Γ : List (Item 𝓤)} {E : Env 𝓤 𝓛.H} {C : Calls 𝓤 𝓛.H} {f : Callee} {xs : List Operand} {Λ : Loops 𝓤 𝓛.H} {q : Post 𝓤 𝓛.H} {d : Place} {rest : Body} where
  open 𝓛 use {H}

  pub calls_told : K → FmC 𝓤 H 𝓛.laws C → (T : Ended) (c : Clauses 𝓤 T) → Triple 𝓤 (C f) (triple_of 𝓛 T.signature (closing 𝓛 T c))
      → (x : (triple_of 𝓛 T.signature (closing 𝓛 T c)).Ghost) (tokens : Item 𝓤) → ent 𝓤 (alive 𝓛 T.signature x.0.0 x.0.1) (mean 𝓛 tokens)
      → (φ : Res T.signature x.0.0 → Type 0) → ((r : Res T.signature x.0.0) (e : Outs x.0.0 T.signature.params T.kept) → ent 𝓤 ((c x.0.0 x.0.3).ensures x.1 r e) (fact 𝓤 (φ r)))
      → Opds K 𝓛 (raw ((triple_of 𝓛 T.signature (closing 𝓛 T c)).pre x) ∷ Γ) E xs ((triple_of 𝓛 T.signature (closing 𝓛 T c)).args x)
      → ((u : Val) (r : Res T.signature x.0.0) → φ r → Seq K 𝓛 (‵ ((type_at T.signature.result x.0.0).own_val r (u ∷ [])) ∷ tokens ∷ Γ) (lands C Λ E d u rest q))
      → Seq K 𝓛 (raw ((triple_of 𝓛 T.signature (closing 𝓛 T c)).pre x) ∷ Γ) (runs C Λ E (seq (call f xs d) rest) q)
  calls_told t fm T c known x tokens lent φ says os k =
      calls_at t fm (triple_of 𝓛 T.signature (closing 𝓛 T c)) known x os (λ u.
      use1 𝓛 (later (some (λ (r : Res T.signature x.0.0). (raw (alive 𝓛 T.signature x.0.0 x.0.1) ⊛ ‵ ((type_at T.signature.result x.0.0).own_val r (u ∷ []))) ⊛ raw (ensured 𝓛 T c x.0.0 x.0.3 x.1 r)))) (id⊢ 𝓤 _) $
      await t tt $ pick t (λ r. split t $ move t (1 ∷ []) $
      use1 𝓛 (raw (fact 𝓤 (φ r))) (ex_e 𝓤 _ (λ ws. via 𝓤 _ (snd∗ 𝓤 (sem 𝓛 (lasts T x.0.0 x.0.3 ws)) _) (says r _))) $ heard t (φ r) (λ e. split t $ use1 𝓛 tokens lent $ move t (1 ∷ []) $ k u r e)))
