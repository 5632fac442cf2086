-- Arrays, place by place. Assumes nothing.
use mathlib.Core.Path.{◌≡◌}
use mathlib.Core.Logic.{◌≢◌}
use mathlib.Core.List.{List}
use Prim.Native.Nat.{ℕ, zero, suc, ◌-◌, ◌≤◌, ◌<◌}
use native.Mathlib.Omega.{arith}
use native.Mathlib.Decide.{ℕ_discrete, dec_lt}
use lib.ListN.{length, get_or, set, replicate, length-replicate, get_or-replicate, get_or-eq_default}
use lib.Seq.{get_or-set_same, get_or-set_other}
use Rattle.rules.specs.Columns.{Table, Proper}
use Rattle.basics.specs.Leaving.{Leaving}

-- the same number everywhere
pub filled : (n a v : ℕ) → get_or (replicate n a) v a ≡ a
filled n a v = at (dec_lt v n)
  where
    at : Dec (v < n) → get_or (replicate n a) v a ≡ a
    at (yes l) = get_or-replicate n v a a l
    at (no l) = get_or-eq_default (replicate n a) a (omega (arith, length-replicate n a))

-- what stands in an array is known place by place: at v it is x, elsewhere it is as before
pub set_each : (P : ℕ → ℕ → Type 0) (xs : List ℕ) (none v x : ℕ) → v < length xs → P v x
    → ((u : ℕ) → u ≢ v → P u (get_or xs u none)) → (u : ℕ) → P u (get_or (set xs v x) u none)
set_each P xs none v x l here rest u = at (ℕ_discrete u v)
  where
    at : Dec (u ≡ v) → P u (get_or (set xs v x) u none)
    at (yes e) = rw (e, get_or-set_same xs v x none l) here
    at (no n) = rw (get_or-set_other xs v u x none n) (rest u n)

-- an accepted table's starts
pub leaving : {t : Table} → Proper t → Leaving t.starts
leaving p = record { few = p.few_links; nodes = λ k l. omega (arith, p.starts k l, p.few_nodes) }

-- numbers of which none is below the one before it
pub rise : (start : ℕ → ℕ) (links : ℕ) → ((k : ℕ) → k < links → start (k - 1) ≤ start k) → (i j : ℕ) → i ≤ j → j < links → start i ≤ start j
rise start links order i zero a b = let first : i ≡ zero = omega arith in rw first (omega arith)
rise start links order i (suc j) a b = at (ℕ_discrete i (suc j)) (λ l. rise start links order i j l (omega arith))
  where
    at : Dec (i ≡ suc j) → (i ≤ j → start i ≤ start j) → start i ≤ start (suc j)
    at (yes e) before = rw e (omega arith)
    at (no d) before =
        let back : suc j - 1 ≡ j = omega arith in
        let step : start j ≤ start (suc j) = rw back at (order (suc j) b) in
        omega (arith, before (omega arith))
