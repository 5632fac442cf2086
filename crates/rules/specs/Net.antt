-- A network with one root, its walks and its least sums. Nothing here looks at a column: Columns.antt makes a
-- network of them. Assumes nothing.
use Rattle.std.specs.Prelude.{◌≡◌, Bool, true, ℕ, ◌+◌, ◌*◌, ◌≤◌, ◌<◌}

-- nodes 0 .. nodes - 1 and links 0 .. links - 1, each link with its start, its end, its cost and whether it is open;
-- the largest cost; the ceiling, which no route's sum reaches; the distance that marks an unreached node; and the
-- number for "no link"
pub record Net : Type 0 where
  pub nodes : ℕ
  pub root : ℕ
  pub links : ℕ
  pub start : ℕ → ℕ
  pub end : ℕ → ℕ
  pub cost : ℕ → ℕ
  pub is_open : ℕ → Bool
  pub most : ℕ
  pub ceiling : ℕ
  pub mark : ℕ
  pub none : ℕ

-- what judging a table makes sure of, and what the numbers keep
pub record Legal (N : Net) : Type 0 where
  pub root_is_node : N.root < N.nodes
  pub starts : (k : ℕ) → k < N.links → N.start k < N.nodes
  pub ends : (k : ℕ) → k < N.links → N.end k < N.nodes
  pub no_such_link : N.links ≤ N.none
  pub some_route : 0 < N.ceiling
  pub mark_is_far : 0 < N.mark

-- a link that is up, and open
pub record Usable (N : Net) (k : ℕ) : Type 0 where
  pub is_link : k < N.links
  pub costs : 0 < N.cost k
  pub open_is : N.is_open k ≡ true

-- Walk N v d: usable links lead from the root to v, and their costs sum up to d
pub data Walk (N : Net) : ℕ → ℕ → Type 0 where
  at_root : Walk N N.root 0
  along : {d : ℕ} (k : ℕ) → Usable N k → Walk N (N.start k) d → Walk N (N.end k) (d + N.cost k)

-- d is the least sum of costs over the usable links that lead to v
pub record Least (N : Net) (v d : ℕ) : Type 0 where
  pub walk : Walk N v d
  pub least : (e : ℕ) → Walk N v e → d ≤ e

-- no link costs more than the largest cost, and so many of the dearest links as there are nodes stay below the
-- ceiling and the mark
pub record Roomy (N : Net) : Type 0 where
  pub costs : (k : ℕ) → N.cost k ≤ N.most
  pub below_ceiling : N.most * N.nodes < N.ceiling
  pub below_mark : N.most * N.nodes < N.mark
