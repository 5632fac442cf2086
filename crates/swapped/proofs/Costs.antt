-- Batches without a common link leave the same costs in any order, and as one batch. Assumes nothing.
use mathlib.Core.Path.{◌≡◌, refl, sym, ap, ◌∙◌}
use mathlib.Core.Logic.{◌≢◌}
use mathlib.Core.List.{List, [], ◌∷◌, ◌++◌}
use Prim.Native.Nat.{ℕ, zero, suc, ◌<◌}
use native.Mathlib.Omega.{arith}
use lib.ListN.{length, set}
use lib.Seq.{set_comm}
use Rattle.rules.specs.Columns.{applied}
use Rattle.rules.specs.Refusals.{link_at}
use Rattle.rules.specs.declared.Change.{Change}
use Rattle.swapped.specs.Swapped.{NoCommonLink, Each, none, more, NoneCommon, Reordered, same, swap, behind, again}

-- ---- two batches

-- a row and a batch that doesn't name its link
row_then : (row : Change) (batch : List Change) (costs : List ℕ) → ((at : ℕ) → at < length batch → row.link ≢ link_at batch at)
    → applied batch (set costs row.link row.cost) ≡ set (applied batch costs) row.link row.cost
unfolding applied link_at
row_then row [] costs apart = refl
row_then row (other ∷ rows) costs apart =
    ap (applied rows) (set_comm costs row.link other.link row.cost other.cost (apart 0 (omega arith)))
    ∙ row_then row rows (set costs other.link other.cost) (λ at l. apart (suc at) (omega arith))

-- without its first row
fewer : {row : Change} {rows batch : List Change} → NoCommonLink (row ∷ rows) batch → NoCommonLink rows batch
unfolding link_at
fewer h = record { apart = λ i j l m. h.apart (suc i) j (omega arith) m }

pub either_way : (one two : List Change) (costs : List ℕ) → NoCommonLink one two → applied two (applied one costs) ≡ applied one (applied two costs)
unfolding applied link_at
either_way [] two costs h = refl
either_way (row ∷ rows) two costs h =
    either_way rows two (set costs row.link row.cost) (fewer h)
    ∙ ap (applied rows) (row_then row two costs (λ at l. h.apart 0 at (omega arith) l))

-- as one batch, whatever they name
pub as_one : (one two : List Change) (costs : List ℕ) → applied (one ++ two) costs ≡ applied two (applied one costs)
unfolding applied
as_one [] two costs = refl
as_one (row ∷ rows) two costs = as_one rows two (set costs row.link row.cost)

-- ---- any number of batches

-- the costs after all of them
unfoldable pub all_applied : List (List Change) → List ℕ → List ℕ
all_applied [] costs = costs
all_applied (batch ∷ batches) costs = all_applied batches (applied batch costs)

turned : {one two : List Change} → NoCommonLink one two → NoCommonLink two one
turned h = record { apart = λ i j l m e. h.apart j i m l (sym e) }

-- what is so of each is so of each in another order
pub each_reordered : {So : List Change → Type 0} {batches others : List (List Change)} → Reordered batches others → Each So batches → Each So others
each_reordered same e = e
each_reordered swap (more a (more b e)) = more b (more a e)
each_reordered (behind r) (more a e) = more a (each_reordered r e)
each_reordered (again r s) e = each_reordered s (each_reordered r e)

none_reordered : {batches others : List (List Change)} → Reordered batches others → NoneCommon batches → NoneCommon others
none_reordered same n = n
none_reordered swap (more (more h a) (more b n)) = more (more (turned h) b) (more a n)
none_reordered (behind r) (more a n) = more (each_reordered r a) (none_reordered r n)
none_reordered (again r s) n = none_reordered s (none_reordered r n)

pub any_way : {batches others : List (List Change)} → Reordered batches others → NoneCommon batches → (costs : List ℕ) → all_applied batches costs ≡ all_applied others costs
unfolding all_applied
any_way same n costs = refl
any_way (swap {one = one} {two = two} {batches = batches}) (more (more h a) n) costs = ap (all_applied batches) (either_way one two costs h)
any_way (behind {batch = batch} r) (more a n) costs = any_way r n (applied batch costs)
any_way (again r s) n costs = any_way r n costs ∙ any_way s (none_reordered r n) costs
