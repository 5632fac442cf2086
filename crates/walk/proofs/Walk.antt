-- How every proof by hand ends. The author shows a walk: that the function's code, from what its types own at entry, runs to
-- what its contract says, for every choice of what the contract binds. `closes` takes it to the function's theorem, and
-- `calls` has a callee's theorem ready for the walk. For functions whose contract has no `requires`. Assumes nothing.
use mathlib.Core.Path.{◌≡◌}
use seplogic.Ra.Ura.{Ura}
use mir.Syntax.{Fn}
use base.Logic.{ent, via, fst∗}
use prog.Model.{Model}
use prog.Routine.{Callee, Routine, Env}
use prog.Wp.{WpFn, Tables, Closed}
use types.Logic.{Logic}
use contract.Lifetimes.{Lfts, Shares, AllOutlive}
use contract.Running.{Running, tables, tables_of}
use sound.WpLaws.{WpFn-mono}
use denote.RattleType.{flat}
use denote.Laws.{Are, Ises, Spells, valss, Tellss}
use denote.Signature.{types_at}
use denote.Triple.Clauses.{Clauses, Ended, closing}
use denote.Triple.Entry.{Args, on_entry}
use denote.Triple.Spec.{Meets, triple_of}
use denote.Triple.Statement.{Contract, Triple}
use denote.Triple.Table.{entered, cited}
use denote.Triple.Walked.{Stays, AllGo, walk_of, walked, walk_Meets}

module _ {M : Type 1} {𝓤 : Ura M} (𝓛 : Logic 𝓤) (𝓜 : Model 𝓤 𝓛.H) (𝓡 : Running 𝓤 𝓛.H 𝓜) (env : Env) where
  -- the tables over which the code is walked
  open 𝓛 use {H}

  pub code_tables : Tables 𝓤 H
  code_tables = tables_of 𝓤 H 𝓜 (tables 𝓤 H 𝓜 𝓡 env)

  -- a callee's theorem, at the name by which the code calls it
  pub calls : (c : Contract 𝓤) (callee : Callee) (routine : Routine) → env callee ≡ routine → Triple 𝓤 (𝓡.run routine) c → Triple 𝓤 (code_tables.C callee) c
  unfolding code_tables tables_of
  calls c callee routine is met = cited 𝓤 H c 𝓜 𝓡 env callee routine is met

  -- a walk of the code is the function's theorem
  module _ (T : Ended) (hs : Stays T.signature.params T.kept) (c : Clauses 𝓤 T) (name : Callee) (code : Fn)
      (unfolded : Closed 𝓤 H (tables 𝓤 H 𝓜 𝓡 env).C (tables 𝓤 H 𝓜 𝓡 env).Λ name code)
      (go : AllGo 𝓛 T.signature.lifetimes T.signature.params T.kept hs)
      (spelled : (κs : Lfts T.signature.lifetimes) → Spells (types_at T.signature.params κs))
      (tell : (κs : Lfts T.signature.lifetimes) → Tellss (types_at T.signature.params κs) (Ises (types_at T.signature.params κs)) (spelled κs)) where
    pub closes : ((κs : Lfts T.signature.lifetimes) (qs : Shares T.signature.lifetimes) (bounds : AllOutlive T.signature.lifetimes T.signature.outlives κs) (a : Args T.signature κs) (g : (c κs a).ghost)
        → Are (types_at T.signature.params κs) (Ises (types_at T.signature.params κs)) a (valss (types_at T.signature.params κs) (spelled κs) a)
        → ent 𝓤 (on_entry 𝓛 T.signature κs qs a (valss (types_at T.signature.params κs) (spelled κs) a))
        (WpFn 𝓤 H code_tables.C code_tables.Λ code (flat (types_at T.signature.params κs) (valss (types_at T.signature.params κs) (spelled κs) a)) ((walk_of 𝓛 T hs c).post ((κs, qs, bounds, a, valss (types_at T.signature.params κs) (spelled κs) a), g))))
        → Meets 𝓛 T.signature (𝓡.run (env name)) (closing 𝓛 T c)
    unfolding code_tables tables_of
    closes walk =
        entered 𝓤 H (triple_of 𝓛 T.signature (closing 𝓛 T c)) (tables 𝓤 H 𝓜 𝓡 env).C (tables 𝓤 H 𝓜 𝓡 env).Λ name code unfolded
        (walk_Meets 𝓛 T hs go c (WpFn 𝓤 H code_tables.C code_tables.Λ code) (WpFn-mono 𝓤 H 𝓛.laws code_tables code)
        (walked 𝓛 T hs c (WpFn 𝓤 H code_tables.C code_tables.Λ code) spelled tell
        (λ κs qs bounds a g are. via 𝓤 _ (fst∗ 𝓤 _ ((c κs a).requires g)) (walk κs qs bounds a g are))))
