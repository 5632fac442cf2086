-- The climb from a node to the root by parent links, and what tracing a node's path gives back. proofs/Laws.antt
-- shows that a tree that fits can be climbed, and that what is traced is the rules' path. Assumes nothing.
use Rattle.std.specs.Prelude.{◌≡◌, ◌≢◌, List, [], ◌∷◌, ◌++◌, ℕ, Option, None, Some, ◌+◌, ◌≤◌, ◌<◌, length, get_or}
use Rattle.rules.specs.Columns.{most_nodes}
use Rattle.rules.specs.Jobs.{written}
use Rattle.rules.specs.declared.Links.{Links}
use Rattle.rules.specs.declared.Arrays.{Arrays}

-- what a climb looks at: the root, the links' starts, and the tree's distances and parent links
pub record Parents : Type 0 where
  pub root : ℕ
  pub starts : List ℕ
  pub dist : List ℕ
  pub parent : List ℕ

abbrev pub parents : ℕ → List ℕ → List ℕ → List ℕ → Parents
parents root starts dist parent = record { root = root; starts = starts; dist = dist; parent = parent }

abbrev pub climb_in : Links → Arrays → Parents
climb_in links tree = parents links.root links.starts.now tree.dist.now tree.parent.now

module _ (p : Parents) where
  abbrev pub link_to : ℕ → ℕ
  link_to v = get_or p.parent v 0

  -- the node that v's parent link starts at
  abbrev pub above : ℕ → ℕ
  above v = get_or p.starts (link_to v) 0

  -- v's parent link is a link, and starts at a nearer node
  pub record Step (v : ℕ) : Type 0 where
    pub is_link : link_to v < length p.starts
    pub is_node : above v < most_nodes
    pub nearer : get_or p.dist (above v) 0 < get_or p.dist v 0

  -- the links of the climb from v, in travel order
  pub data Way : ℕ → List ℕ → Type 0 where
    at_root : Way p.root []
    by_parent : {v : ℕ} {links : List ℕ} → v ≢ p.root → Step v → Way (above v) links → Way v (links ++ (link_to v ∷ []))

  -- steps lead up from the node to the root; with so many links counted below it, fewer than 256 in all
  pub record Climbable (node below : ℕ) : Type 0 where
    pub is_node : node < most_nodes
    pub links : List ℕ
    pub way : Way node links
    pub few : below + length links < most_nodes

  -- with so many links counted below v, there are total in all
  pub record Counted (v below total : ℕ) : Type 0 where
    pub links : List ℕ
    pub way : Way v links
    pub count : below + length links ≡ total

  -- the links of v's path, n of them, stand at the list's front, and its other places stay
  pub record FilledFrom (v n : ℕ) (entry exit : List ℕ) : Type 0 where
    pub links : List ℕ
    pub way : Way v links
    pub count : length links ≡ n
    pub listed : exit ≡ written links entry

  -- the answer, which is how many links are written where there is room for them, and the list at exit
  pub data Traces (node : ℕ) (list : List ℕ) : Option ℕ → List ℕ → Type 0 where
    traced : {links : List ℕ} → Way node links → length links ≤ length list
        → Traces node list (Some (length links)) (written links list)
    short : {links : List ℕ} → Way node links → length list < length links → Traces node list None list
