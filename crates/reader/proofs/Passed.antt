-- A reader as the one parameter of a function: its type over the signature's lifetimes, its machine value, and that the
-- type's relation tells this. Assumes nothing.
use mathlib.Core.List.{[], ◌∷◌}
use contract.Lifetimes.{Lfts}
use denote.RattleType.{RattleType}
use denote.Ref.{NamedLft}
use denote.Laws.{Ises, Spells, Tellss}
use denote.Signature.{named_lft}
use denote.Struct.Laws as LL
use Rattle.reader.specs.contracts.Reader as T
use Rattle.reader.proofs.Reader.TheLaws as T'

abbrev pub lifetime : Lfts 1 → NamedLft
lifetime κs = named_lft 1 0 tt κs

abbrev pub the_reader : Lfts 1 → RattleType
the_reader κs = T.the_row (lifetime κs)

abbrev pub spelled : (κs : Lfts 1) → Spells (the_reader κs ∷ [])
spelled κs = (LL.vals (T.the_type (lifetime κs)) (T'.the_laws (lifetime κs)), tt)

abbrev pub told : (κs : Lfts 1) → Tellss (the_reader κs ∷ []) (Ises (the_reader κs ∷ [])) (spelled κs)
told κs = (LL.tells (T.the_type (lifetime κs)) (T'.the_laws (lifetime κs)), tt)
