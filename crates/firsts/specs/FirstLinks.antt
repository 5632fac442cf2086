-- First links: the last links of the ways up to the root. Assumes nothing.
use Rattle.std.specs.Prelude.{◌≡◌, ◌≢◌, List, ℕ, ◌≤◌, ◌<◌, length, get_or}
use Rattle.rules.specs.Columns.{most_nodes, no_link}

-- of an array of links, v has one
pub record Has (array : List ℕ) (v : ℕ) : Type 0 where
  pub link : get_or array v no_link ≢ no_link

-- the node that a node's parent link starts at
abbrev pub above : List ℕ → List ℕ → ℕ → ℕ
above starts parent v = get_or starts (get_or parent v no_link) 0

-- each node that has a parent link hangs, by way of nearer nodes, from the root
pub record Rising (root : ℕ) (starts dist parent : List ℕ) : Type 0 where
  pub long : length parent ≡ most_nodes
  pub is_link : (v : ℕ) → Has parent v → get_or parent v no_link < length starts
  pub goes_on : (v : ℕ) → Has parent v → above starts parent v ≢ root → Has parent (above starts parent v)
  pub nearer : (v : ℕ) → Has parent v → get_or dist (above starts parent v) 0 < get_or dist v 0

-- f is a node's first link by its parent link and by the first links of the nodes above it
pub record FirstBy (root : ℕ) (starts first : List ℕ) (link f : ℕ) : Type 0 where
  pub bare : length starts ≤ link → f ≡ link
  pub near : link < length starts → get_or starts link 0 ≡ root → f ≡ link
  pub far : link < length starts → get_or starts link 0 ≢ root → f ≡ get_or first (get_or starts link 0) no_link

-- FirstLink v f: going up by parent links from v, link f is the last, and starts at the root
pub data FirstLink (root : ℕ) (starts parent : List ℕ) : ℕ → ℕ → Type 0 where
  near : {v : ℕ} → Has parent v → above starts parent v ≡ root → FirstLink root starts parent v (get_or parent v no_link)
  far : {v f : ℕ} → Has parent v → above starts parent v ≢ root → FirstLink root starts parent (above starts parent v) f
      → FirstLink root starts parent v f

module _ (root : ℕ) (starts parent : List ℕ) where
  -- the first link of each of the first n nodes is right by its parent link and by those above it
  pub record Standing (n : ℕ) (first : List ℕ) : Type 0 where
    pub each : (v : ℕ) → v < n → FirstBy root starts first (get_or parent v no_link) (get_or first v no_link)

  -- each first link that is known is right
  pub record Known (first : List ℕ) : Type 0 where
    pub long : length first ≡ most_nodes
    pub right : (v : ℕ) → Has first v → FirstLink root starts parent v (get_or first v no_link)

  -- and that of node is known, with all that were known before
  pub record Spread (node : ℕ) (old new : List ℕ) : Type 0 where
    pub known : Known new
    pub stays : (v : ℕ) → Has old v → Has new v
    pub here : Has new node

  -- the first link of each of the first n nodes that hang is known
  pub record FirstLinks (n : ℕ) (first : List ℕ) : Type 0 where
    pub known : Known first
    pub each : (v : ℕ) → v < n → Has parent v → Has first v
