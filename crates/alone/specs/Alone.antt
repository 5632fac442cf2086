-- The pass over the rows: which are right by themselves, what links offer left aside. Assumes nothing.
use Rattle.std.specs.Prelude.{◌≡◌, Bool, true, false, ◌&&◌, not, ℕ, Option, None, Some, ◌+◌, ◌≤◌, ◌<◌}
use Rattle.std.proofs.Math.Bool.{cond}
use Rattle.std.proofs.Math.Dec.{eqb, ltb}
use Rattle.rules.specs.Net.{Net}
use Rattle.rules.specs.Fit.{Rows}
use Rattle.rules.specs.Tests.{usable}
use Rattle.rules.specs.Columns.{most_nodes}

-- this distance, and neither a parent nor a first link
abbrev pub empty_at : ℕ → ℕ → ℕ → ℕ → ℕ → Bool
empty_at none wanted dist parent first = eqb dist wanted && eqb parent none && eqb first none

-- a link to this end, of this cost, from a node at one distance, is tight for node v at another: if it is usable
abbrev pub tight_by : ℕ → ℕ → ℕ → ℕ → ℕ → ℕ → Bool
tight_by mark v dist end cost from = eqb end v && not (eqb from mark) && eqb (from + cost) dist

-- the first link of a node by its parent link, where that starts, and the first link there
abbrev pub first_of : ℕ → ℕ → ℕ → ℕ → ℕ
first_of root parent start first = cond (eqb start root) parent first

-- link k is tight for v, makes v's first link what it is, and is usable
module _ (N : Net) (dist first : ℕ → ℕ) where
  unfoldable pub hung_by : ℕ → ℕ → Bool
  unfolding usable
  hung_by k v =
      tight_by N.mark v (dist v) (N.end k) (N.cost k) (dist (N.start k))
      && eqb (first v) (first_of N.root k (N.start k) (first (N.start k))) && usable N k

module _ (N : Net) (r : Rows) where
  -- v hangs by its parent link, and has the right first link
  unfoldable pub hung_alone : ℕ → Bool
  unfolding hung_by
  hung_alone v = ltb v N.nodes && ltb (r.dist v) N.ceiling && hung_by N r.dist r.first (r.parent v) v

  -- the row of v is right by itself, what links offer v left aside
  unfoldable pub row_alone : ℕ → Bool
  unfolding hung_alone
  row_alone v =
      cond (eqb v N.root) (empty_at N.none 0 (r.dist v) (r.parent v) (r.first v))
      (cond (eqb (r.dist v) N.mark) (empty_at N.none N.mark (r.dist v) (r.parent v) (r.first v)) (hung_alone v))

  -- the rows before v are
  pub record RightBefore (v : ℕ) : Type 0 where
    pub right : (u : ℕ) → u < v → row_alone u ≡ true

  -- v is the smallest node whose row is not, or 256
  pub record FirstWrong (v : ℕ) : Type 0 where
    pub within : v ≤ most_nodes
    pub before : RightBefore v
    pub wrong : v < most_nodes → row_alone v ≡ false

  -- the same as an answer: the node, or none
  abbrev pub FirstWrongOf : Option ℕ → Type 0
  FirstWrongOf None = FirstWrong most_nodes
  FirstWrongOf (Some v) = (v < most_nodes) × FirstWrong v
