-- Distances with the queue of the nodes that wait and the links found, and what the offer of one link does to them.
-- Assumes nothing.
use Rattle.std.specs.Prelude.{◌≡◌, List, ℕ, ◌+◌, ◌^◌, ◌≤◌, ◌<◌, length, get_or, set}
use Rattle.rules.specs.Net.{Net, Usable}
use Rattle.rules.specs.Columns.{most_nodes}
use Rattle.queue.specs.Queue.{empty, key_of}

-- node v's distance, its key, and the link found for it; v has the mark, no key and no link where there is no such node
abbrev pub dist_at : Net → List ℕ → ℕ → ℕ
dist_at N dist v = get_or dist v N.mark

abbrev pub key_at : List ℕ → ℕ → ℕ
key_at keys v = get_or keys v empty

abbrev pub found_at : Net → List ℕ → ℕ → ℕ
found_at N found v = get_or found v N.none

-- a node doesn't wait, or waits with its distance
pub data Keyed (mark distance key node : ℕ) : Type 0 where
  idle : key ≡ empty → Keyed mark distance key node
  waits : distance < mark → key ≡ key_of distance node → Keyed mark distance key node

-- the distances, up to a mark of 32 bits, and the queue agree
pub record Lined (mark : ℕ) (dist keys : List ℕ) : Type 0 where
  pub mark_fits : mark < 2 ^ 32
  pub long : length dist ≡ most_nodes
  pub keys_long : length keys ≡ most_nodes
  pub most : (v : ℕ) → get_or dist v mark ≤ mark
  pub keyed : (v : ℕ) → Keyed mark (get_or dist v mark) (key_at keys v) v

-- what the offer of a sum over link k does to its end: where it is less and the link usable, it is taken and the end
-- waits
pub data Offered (N : Net) (k sum : ℕ) (dist keys dist' keys' : List ℕ) : Type 0 where
  left : (Usable N k → dist_at N dist (N.end k) ≤ sum) → dist' ≡ dist → keys' ≡ keys → Offered N k sum dist keys dist' keys'
  taken : Usable N k → sum < dist_at N dist (N.end k) → dist' ≡ set dist (N.end k) sum → keys' ≡ set keys (N.end k) (key_of sum (N.end k))
      → Offered N k sum dist keys dist' keys'

-- what it does to the links found: a sum that is less writes the link, and an equal one that is below the mark may write a
-- smaller one
pub data Noted (N : Net) (k sum : ℕ) (dist found found' : List ℕ) : Type 0 where
  passed : (Usable N k → dist_at N dist (N.end k) ≤ sum) → found' ≡ found → Noted N k sum dist found found'
  written : Usable N k → sum < N.mark → sum ≤ dist_at N dist (N.end k) → (sum ≡ dist_at N dist (N.end k) → k ≤ found_at N found (N.end k))
      → found' ≡ set found (N.end k) k → Noted N k sum dist found found'

-- where the sum is below the mark and equals the distance, no larger link is left
pub record Lowered (N : Net) (k sum : ℕ) (dist found' : List ℕ) : Type 0 where
  pub lowered : Usable N k → sum < N.mark → sum ≡ dist_at N dist (N.end k) → found_at N found' (N.end k) ≤ k

-- what offering link k does, from a start that may be unreached
pub data Told (N : Net) (k : ℕ) (dist keys found dist' keys' found' : List ℕ) : Type 0 where
  unheard : N.mark ≤ dist_at N dist (N.start k) → dist' ≡ dist → keys' ≡ keys → found' ≡ found → Told N k dist keys found dist' keys' found'
  heard : Offered N k (dist_at N dist (N.start k) + N.cost k) dist keys dist' keys'
      → Noted N k (dist_at N dist (N.start k) + N.cost k) dist found found'
      → Lowered N k (dist_at N dist (N.start k) + N.cost k) dist found' → Told N k dist keys found dist' keys' found'
