-- One entry more behind a column's front. Assumes nothing.
use mathlib.Core.Path.{◌≡◌, ap, ◌∙◌}
use mathlib.Core.List.{List, [], ◌∷◌}
use Prim.Native.Nat.{ℕ, ◌+◌, ◌≤◌, ◌<◌}
use native.Mathlib.Numerals.{add-one}
use lib.ListN.{length, set, take, length-append}
use lib.Seq.{length-take-le, take-suc-set}
use Rattle.enter.specs.More.{with_one_more}

pub entry_length : (n : ℕ) (l : List ℕ) (x : ℕ) → n ≤ length l → length (with_one_more (take n l) x) ≡ n + 1
entry_length n l x h = length-append (take n l) (x ∷ []) ∙ ap (λ (k : ℕ). k + 1) (length-take-le n l h)

pub entry_written : (l : List ℕ) (n x : ℕ) → n < length l → take (n + 1) (set l n x) ≡ with_one_more (take n l) x
entry_written l n x h = rw add-one (take-suc-set l n x h)
