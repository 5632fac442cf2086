-- 01's stream for `routes`, 85 bytes, as the reader splits it: sixteen records, and a byte 9 at 84. Assumes nothing.
use mathlib.Core.Path.{◌≡◌, refl}
use mathlib.Core.List.{List, [], ◌∷◌, ◌++◌}
use Prim.Native.Nat.{ℕ}
use Rattle.stream.specs.declared.Item.{Item}
use Rattle.stream.specs.declared.Item.TheVariants.{Network, Link, Change, Apply, Ask, UnknownKind, CutShort}
use Rattle.stream.specs.Records.{read_at, stands}
use Rattle.splits.specs.Splitting.{split_from, split}

abbrev links : List ℕ
links =
    (2 ∷ 0 ∷ 0 ∷ 0 ∷ 1 ∷ 0 ∷ 4 ∷ 2 ∷ 0 ∷ 0 ∷ 0 ∷ 2 ∷ 0 ∷ 7 ∷ 2 ∷ 0 ∷ 1 ∷ 0 ∷ 0 ∷ 0 ∷ 4 ∷ 2 ∷ 0 ∷ 1 ∷ 0 ∷ 2 ∷ 0 ∷ 2 ∷ [])
    ++ (2 ∷ 0 ∷ 2 ∷ 0 ∷ 0 ∷ 0 ∷ 7 ∷ 2 ∷ 0 ∷ 2 ∷ 0 ∷ 1 ∷ 0 ∷ 2 ∷ 2 ∷ 0 ∷ 2 ∷ 0 ∷ 3 ∷ 0 ∷ 1 ∷ 2 ∷ 0 ∷ 3 ∷ 0 ∷ 2 ∷ 0 ∷ 1 ∷ [])

abbrev rest : List ℕ
rest = 5 ∷ 0 ∷ 2 ∷ 3 ∷ 0 ∷ 3 ∷ 0 ∷ 5 ∷ 3 ∷ 0 ∷ 0 ∷ 0 ∷ 2 ∷ 4 ∷ 3 ∷ 0 ∷ 3 ∷ 0 ∷ 6 ∷ 4 ∷ 5 ∷ 0 ∷ 3 ∷ 9 ∷ []

abbrev records : List Item
records =
    Network 4 0 ∷ Link 0 1 4 ∷ Link 0 2 7 ∷ Link 1 0 4 ∷ Link 1 2 2 ∷ Link 2 0 7 ∷ Link 2 1 2 ∷ Link 2 3 1 ∷ Link 3 2 1
    ∷ Ask 2 ∷ Change 3 5 ∷ Change 0 2 ∷ Apply ∷ Change 3 6 ∷ Apply ∷ Ask 3 ∷ []

pub pier : split ((1 ∷ 0 ∷ 4 ∷ 0 ∷ 0 ∷ []) ++ links ++ rest) ≡ record { records = records; stop = stands (UnknownKind 84) 84 }
unfolding split_from read_at
pier = refl

-- both bytes of a number count, the high one first, and a body may lack no byte
pub high_first : split (2 ∷ 1 ∷ 2 ∷ 0 ∷ 1 ∷ 255 ∷ 254 ∷ 5 ∷ 0 ∷ []) ≡ record { records = Link 258 1 65534 ∷ []; stop = stands (CutShort 7) 7 }
unfolding split_from read_at
high_first = refl
