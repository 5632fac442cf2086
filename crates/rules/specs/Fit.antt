-- The rows of a tree over a network, the rules by which a tree fits, node by node, and what it then says of
-- routes. Assumes nothing.
use Rattle.std.specs.Prelude.{◌≡◌, ◌≢◌, List, [], ◌∷◌, ◌++◌, ℕ, ◌+◌, ◌≤◌, ◌<◌, get_or}
use Rattle.rules.specs.Net.{Net, Usable, Walk, Least}

-- of each node its distance, its parent link and its first link
pub record Rows : Type 0 where
  pub dist : ℕ → ℕ
  pub parent : ℕ → ℕ
  pub first : ℕ → ℕ

-- the costs of some links, summed up
unfoldable pub total : Net → List ℕ → ℕ
total N [] = 0
total N (k ∷ ks) = N.cost k + total N ks

module _ (N : Net) (r : Rows) where
  abbrev pub Reached : ℕ → Type 0
  Reached v = r.dist v ≢ N.mark

  -- link k is usable, leads to v from a reached node, and its start's distance plus its cost equals v's own
  pub record Tight (k v : ℕ) : Type 0 where
    pub usable : Usable N k
    pub ends_at : N.end k ≡ v
    pub from_reached : Reached (N.start k)
    pub sum : r.dist (N.start k) + N.cost k ≡ r.dist v

  -- link k is usable and offers v a route from a reached node
  pub record Offer (k v : ℕ) : Type 0 where
    pub usable : Usable N k
    pub ends_at : N.end k ≡ v
    pub from_reached : Reached (N.start k)
    pub counts : r.dist (N.start k) + N.cost k < N.ceiling

  -- the root has distance 0, no parent, no first link
  pub record RootRow (v : ℕ) : Type 0 where
    pub is_root : v ≡ N.root
    pub at_zero : r.dist v ≡ 0
    pub no_parent : r.parent v ≡ N.none
    pub no_first : r.first v ≡ N.none

  -- unreached, with no parent and no first link, and then no usable link enters it from a reached node; a node at
  -- or above the node count can only be so
  pub record Bare (v : ℕ) : Type 0 where
    pub not_root : v ≢ N.root
    pub unreached : r.dist v ≡ N.mark
    pub no_parent : r.parent v ≡ N.none
    pub no_first : r.first v ≡ N.none
    pub no_offer : (k : ℕ) → Offer k v → ⊥

  -- reached: its parent is tight; nothing offers it less; its first link is its parent link if that starts at the
  -- root, else the first link of the parent link's start
  pub record Hung (v : ℕ) : Type 0 where
    pub is_node : v < N.nodes
    pub not_root : v ≢ N.root
    pub reached : Reached v
    pub is_route : r.dist v < N.ceiling
    pub tight : Tight (r.parent v) v
    pub no_less : (k : ℕ) → Offer k v → r.dist v ≤ r.dist (N.start k) + N.cost k
    pub near : N.start (r.parent v) ≡ N.root → r.first v ≡ r.parent v
    pub far : N.start (r.parent v) ≢ N.root → r.first v ≡ r.first (N.start (r.parent v))

  -- node v breaks no rule
  pub data Row (v : ℕ) : Type 0 where
    root : RootRow v → Row v
    hung : Hung v → Row v
    bare : Bare v → Row v

  -- the tree fits: no node breaks a rule
  pub record Fits : Type 0 where
    pub row : (v : ℕ) → Row v

  -- Path v ks: the links ks lead from the root to v in travel order, and each is the parent of its end
  pub data Path : ℕ → List ℕ → Type 0 where
    at_root : Path N.root []
    by_parent : {v : ℕ} {ks : List ℕ} → v ≢ N.root → Usable N (r.parent v) → N.end (r.parent v) ≡ v
        → Path (N.start (r.parent v)) ks → Path v (ks ++ (r.parent v ∷ []))

  -- v has a tree path; its sum is v's distance, and v's first link is the first on it (the root's path is empty)
  pub record Routed (v : ℕ) : Type 0 where
    pub links : List ℕ
    pub path : Path v links
    pub sum : total N links ≡ r.dist v
    pub first : r.first v ≡ get_or links 0 N.none

  -- the distances are the least sums, the parents form a tree of such paths, each first link is the first on its
  -- tree path, and every other entry is empty
  pub record Shortest : Type 0 where
    pub least : (v : ℕ) → Reached v → Least N v (r.dist v)
    pub is_route : (v : ℕ) → Reached v → r.dist v < N.ceiling
    pub no_route : (v : ℕ) → r.dist v ≡ N.mark → (d : ℕ) → Walk N v d → N.ceiling ≤ d
    pub routed : (v : ℕ) → Reached v → Routed v
    pub root_reached : Reached N.root
    pub root_parent : r.parent N.root ≡ N.none
    pub no_parent : (v : ℕ) → r.dist v ≡ N.mark → r.parent v ≡ N.none
    pub no_first : (v : ℕ) → r.dist v ≡ N.mark → r.first v ≡ N.none
