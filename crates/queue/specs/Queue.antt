-- A queue of at most 256 nodes: each node's key, and above the keys the least of each four, and of each eight of those.
-- Assumes nothing.
use Rattle.std.specs.Prelude.{◌≡◌, ◌≢◌, List, ℕ, ◌+◌, ◌*◌, ◌%◌, ◌≤◌, ◌<◌, length, get_or, set, Option, None, Some}

-- the largest 64-bit number, in the place of a node that doesn't wait
abbrev pub empty : ℕ
empty = 18446744073709551615

-- a waiting node's key is its distance and its number
abbrev pub key_of : ℕ → ℕ → ℕ
key_of distance node = distance * 256 + node

-- r is the least number at the places from..to
pub record Least (xs : List ℕ) (from to r : ℕ) : Type 0 where
  pub low : (i : ℕ) → from ≤ i → i < to → r ≤ get_or xs i 0
  pub place : ℕ
  pub not_before : from ≤ place
  pub not_behind : place < to
  pub here : get_or xs place 0 ≡ r

-- mins has the least of each four keys, and then the least of each eight of these; a waiting node's key tells its number
pub record Heaped (keys mins : List ℕ) : Type 0 where
  pub keys_long : length keys ≡ 256
  pub mins_long : length mins ≡ 72
  pub fours : (g : ℕ) → g < 64 → Least keys (g * 4) (g * 4 + 4) (get_or mins g 0)
  pub eights : (g : ℕ) → g < 8 → Least mins (g * 8) (g * 8 + 8) (get_or mins (64 + g) 0)
  pub fits : (v : ℕ) → v < 256 → get_or keys v 0 ≤ empty
  pub named : (v : ℕ) → v < 256 → get_or keys v 0 ≢ empty → get_or keys v 0 % 256 ≡ v

abbrev pub NoneWaits : List ℕ → Type 0
NoneWaits keys = (v : ℕ) → v < 256 → get_or keys v 0 ≡ empty

-- the nearest waiting node, which waits no longer
pub record Nearest (keys : List ℕ) (node : ℕ) (keys' : List ℕ) : Type 0 where
  pub is_node : node < 256
  pub waits : get_or keys node 0 ≢ empty
  pub least : (v : ℕ) → v < 256 → get_or keys node 0 ≤ get_or keys v 0
  pub is_set : keys' ≡ set keys node empty

abbrev pub Popped : List ℕ → Option ℕ → List ℕ → Type 0
Popped keys None keys' = NoneWaits keys × (keys' ≡ keys)
Popped keys (Some node) keys' = Nearest keys node keys'
