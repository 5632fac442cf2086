-- Which distances still stand after costs have changed: a node's parent link carries it, or the node waits to be
-- lifted. Nothing is asked of the parents: they may be any links, or none. Assumes nothing.
use Rattle.std.specs.Prelude.{◌≡◌, ◌≢◌, Bool, true, false, List, ℕ, ◌<◌, ltb, length, get_or}
use Rattle.rules.specs.Net.{Net}
use Rattle.rules.specs.Keep.{count}
use Rattle.rules.specs.Columns.{most_nodes}
use Rattle.queue.specs.Queue.{empty}
use Rattle.offer.specs.Offer.{dist_at, key_at, Lined}
use Rattle.afoot.specs.Afoot.{Untouched, Seeded}
use Rattle.afoot.specs.Finding.{Carries}

-- node v's parent link; there is none where there is no such node
abbrev pub parent_at : Net → List ℕ → ℕ → ℕ
parent_at N parent v = get_or parent v N.none

-- node v needs nothing more, or waits
pub data Stands (N : Net) (parent dist keys : List ℕ) (v : ℕ) : Type 0 where
  bare : dist_at N dist v ≡ N.mark → Stands N parent dist keys v
  root : v ≡ N.root → Stands N parent dist keys v
  waits : key_at keys v ≢ empty → Stands N parent dist keys v
  carried : Carries N dist (parent_at N parent v) v → Stands N parent dist keys v

-- a parent link for each of 256 nodes, and none for the root
pub record Rooted (N : Net) (parent : List ℕ) : Type 0 where
  pub long : length parent ≡ most_nodes
  pub no_parent : parent_at N parent N.root ≡ N.none

-- and each link among them ends at its node
pub record Parents (N : Net) (parent : List ℕ) : Type 0 where
  pub rooted : Rooted N parent
  pub ends_at : (v : ℕ) → parent_at N parent v ≢ N.none → N.end (parent_at N parent v) ≡ v

-- each node that is sure stands; the root never waits
pub record Loose (N : Net) (parent : List ℕ) (sure : ℕ → Type 0) (dist keys : List ℕ) : Type 0 where
  pub lined : Lined N.mark dist keys
  pub root_zero : dist_at N dist N.root ≡ 0
  pub root_idle : key_at keys N.root ≡ empty
  pub standing : (v : ℕ) → sure v → Stands N parent dist keys v

-- each node that stood still stands, and so does each that was asked; the root waits as before
pub record Noted (N : Net) (parent dist keys : List ℕ) (asked : ℕ → Type 0) (keys' : List ℕ) : Type 0 where
  pub lined : Lined N.mark dist keys'
  pub root_still : key_at keys' N.root ≡ key_at keys N.root
  pub still : (v : ℕ) → Stands N parent dist keys v → Stands N parent dist keys' v
  pub stands : (v : ℕ) → asked v → Stands N parent dist keys' v

-- k is a link, and leaves u
pub record Leaves (starts : List ℕ) (k u : ℕ) : Type 0 where
  pub is_link : k < length starts
  pub from : get_or starts k 0 ≡ u

-- v hangs on u by its parent link
pub record Hangs (N : Net) (parent : List ℕ) (u v : ℕ) : Type 0 where
  pub is_link : parent_at N parent v < N.links
  pub leaves : N.start (parent_at N parent v) ≡ u
  pub ends_at : N.end (parent_at N parent v) ≡ v

-- every node stands
abbrev pub AllStand : Net → List ℕ → List ℕ → List ℕ → Type 0
AllStand N parent dist keys = Loose N parent (λ v. Unit {0}) dist keys

-- every node stands but those that hang on u
abbrev pub StandBut : Net → List ℕ → ℕ → List ℕ → List ℕ → Type 0
StandBut N parent u dist keys = Loose N parent (λ v. Hangs N parent u v → ⊥) dist keys

-- every node stands but those whose parent link a row from the i-th on touches
abbrev pub StandApart : Net → List ℕ → List ℕ → ℕ → List ℕ → List ℕ → Type 0
StandApart N parent rows i dist keys = Loose N parent (λ v. Untouched N rows i (parent_at N parent v)) dist keys

-- before: any distances up to the mark, the root's 0, and nothing waits
pub record Liftable (N : Net) (dist keys : List ℕ) : Type 0 where
  pub lined : Lined N.mark dist keys
  pub root_zero : dist_at N dist N.root ≡ 0
  pub none_waits : (v : ℕ) → key_at keys v ≡ empty

-- after: no distance is too small, nothing waits, and each reached node but the root is carried
pub record Lifted (N : Net) (parent dist keys : List ℕ) : Type 0 where
  pub begun : Seeded N dist keys
  pub carried : (v : ℕ) → dist_at N dist v < N.mark → v ≢ N.root → Carries N dist (parent_at N parent v) v
  pub none_waits : (v : ℕ) → key_at keys v ≡ empty

-- what lifting does to node v: nothing, or it goes to unreached and has no first link
pub data Fate (N : Net) (dist dist' first' : List ℕ) (v : ℕ) : Type 0 where
  stays : dist_at N dist' v ≡ dist_at N dist v → Fate N dist dist' first' v
  goes : dist_at N dist' v ≡ N.mark → get_or first' v N.none ≡ N.none → Fate N dist dist' first' v

pub record Fates (N : Net) (dist dist' first' : List ℕ) : Type 0 where
  pub long : length first' ≡ most_nodes
  pub each : (v : ℕ) → Fate N dist dist' first' v

-- what the answer says: no node was lifted and nothing changed, or some were
pub data LiftedRows (N : Net) (dist first dist' first' : List ℕ) : Bool → Type 0 where
  none : dist' ≡ dist → first' ≡ first → LiftedRows N dist first dist' first' false
  some : Fates N dist dist' first' → LiftedRows N dist first dist' first' true

-- how many nodes are reached
unfoldable pub reached_count : Net → List ℕ → ℕ
unfolding count
reached_count N dist = count (λ v. ltb (dist_at N dist v) N.mark) most_nodes
