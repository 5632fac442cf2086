-- Demand 1, of the rules: every job gives the smallest number that applies and accepts exactly where none does, and
-- a refused call leaves everything as it was. (That every call ends, and judges its input itself, is what the code's
-- proofs show.) Assumes nothing.
use mathlib.Core.Path.{◌≡◌, refl, sym}
use mathlib.Core.List.{List}
use Prim.Native.Nat.{ℕ}
use Rattle.rules.specs.Columns.{Table, Arrays, empty_tree}
use Rattle.rules.specs.Refusals.{Values, Verdict, refused}
use Rattle.rules.specs.Applies.{OfTable, OfUpdate, OfPath, Gives}
use Rattle.rules.specs.Jobs.{Built, built, not_built, Updated, updated, not_updated, Pathed, pathed, too_short, not_pathed}
use Rattle.rules.specs.Demands.{Untouched}
use Rattle.rules.specs.declared.Change.{Change}
use Rattle.rules.proofs.Judged.{not_refused}
use Rattle.rules.proofs.Applies.{table_gives, update_gives, path_gives}

-- ---- fresh build

pub built_gives : {t : Table} {v : Verdict} {tree : Arrays} → Built t v tree → Gives (OfTable t) v
built_gives {t} (built e w f) = rw e at (table_gives t)
built_gives {t} (not_built e) = rw e at (table_gives t)

pub demand_1_build : {t : Table} {v : Verdict} {tree : Arrays} {number : ℕ} {values : Values} → Built t v tree → v ≡ refused number values → tree ≡ empty_tree
demand_1_build (built e w f) q = absurd (not_refused (sym q))
demand_1_build (not_built e) q = refl

-- ---- update

pub updated_gives : {t : Table} {old new : Arrays} {batch : List Change} {list costs listed : List ℕ} {count : ℕ} {v : Verdict}
    → Updated t old batch list v new costs listed count → Gives (OfUpdate t old batch list) v
updated_gives {t} {old} {batch = batch} {list = list} (updated changed e w m c) = rw e at (update_gives t old batch list)
updated_gives {t} {old} {batch = batch} {list = list} (not_updated e) = rw e at (update_gives t old batch list)

pub demand_1_update : {t : Table} {old new : Arrays} {batch : List Change} {list costs listed : List ℕ} {count : ℕ} {v : Verdict} {number : ℕ} {values : Values}
    → Updated t old batch list v new costs listed count → v ≡ refused number values → Untouched t old list new costs listed count
demand_1_update (updated changed e w m c) q = absurd (not_refused (sym q))
demand_1_update (not_updated e) q = record { tree_stays = refl; costs_stay = refl; list_stays = refl; count_zero = refl }

-- ---- path

pub pathed_gives : {t : Table} {tree : Arrays} {node : ℕ} {list listed : List ℕ} {count : ℕ} {v : Verdict} → Pathed t tree node list v listed count
    → Gives (OfPath t tree node list) v
pathed_gives {t} {tree} {node} {list} p = path_gives t tree node list p

pub demand_1_path : {t : Table} {tree : Arrays} {node : ℕ} {list listed : List ℕ} {count : ℕ} {v : Verdict} {number : ℕ} {values : Values}
    → Pathed t tree node list v listed count → v ≡ refused number values → (listed ≡ list) × (count ≡ 0)
demand_1_path (pathed e p l) q = absurd (not_refused (sym q))
demand_1_path (too_short e p l) q = (refl, refl)
demand_1_path (not_pathed e) q = (refl, refl)
