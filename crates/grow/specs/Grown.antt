-- What growing a tree's arrays asks and gives, by a profile's numbers. Assumes nothing.
use Rattle.std.specs.Prelude.{◌≡◌, ◌≢◌, Bool, true, false, List, ℕ, ◌≤◌, ◌<◌, length, get_or}
use Rattle.rules.specs.Net.{Net, Usable}
use Rattle.rules.specs.Fit.{Fits}
use Rattle.rules.specs.Keep.{Fresh, Next}
use Rattle.rules.specs.Columns.{Table, Arrays, Whole, net_in, rows_in, most_nodes, no_link, with_costs}
use Rattle.rules.specs.declared.Profile.{Profile}
use Rattle.offer.specs.Offer.{dist_at}
use Rattle.afoot.specs.Afoot.{Every, Untouched, Naming, Afoot, Settled}
use Rattle.afoot.specs.Finding.{Carries, Finding, CalmOr}
use Rattle.lift.specs.Loose.{parent_at}

pub record Grown (p : Profile) (t : Table) (tree : Arrays) : Type 0 where
  pub whole : Whole tree
  pub fresh : Fresh (net_in p t) (rows_in p tree)

-- any tree with no distance above the mark, in which the root has distance 0 and no parent
pub record Old (p : Profile) (t : Table) (tree : Arrays) : Type 0 where
  pub whole : Whole tree
  pub most : (v : ℕ) → (rows_in p tree).dist v ≤ p.mark
  pub root_zero : (rows_in p tree).dist t.root ≡ 0
  pub root_parent : (rows_in p tree).parent t.root ≡ no_link

-- the rows name links of the table, and the tree fitted while those had other costs
pub record Fitted (p : Profile) (t : Table) (rows : List ℕ) (tree : Arrays) : Type 0 where
  pub old : Old p t tree
  pub named : Naming (length t.starts) rows
  pub costs : List ℕ
  pub same : (k : ℕ) → ((m : ℕ) → m < length rows → get_or rows m 0 ≢ k) → get_or costs k 0 ≡ get_or t.costs k 0
  pub fits : Fits (net_in p (with_costs t costs)) (rows_in p tree)

pub record Regrown (p : Profile) (t : Table) (old : List ℕ) (tree : Arrays) : Type 0 where
  pub whole : Whole tree
  pub next : Next (net_in p t) (rows_in p tree) (λ v. get_or old v no_link)

-- ---- on the way to the next tree

-- each reached node but the root is carried by its parent link
pub record AllCarried (N : Net) (parent dist : List ℕ) : Type 0 where
  pub carried : (v : ℕ) → dist_at N dist v < N.mark → v ≢ N.root → Carries N dist (parent_at N parent v) v

-- a link that no row touches has nothing less to offer, or leads to a lifted node
pub record Apart (N : Net) (rows dist keys : List ℕ) (lifted : Bool) (first : List ℕ) : Type 0 where
  pub apart : (k : ℕ) → Usable N k → Untouched N rows 0 k → CalmOr N dist keys lifted first k

-- the loop can start: the nodes were carried while they had the distances that stood, and what is known of the links
-- found since
pub record Begun (N : Net) (parent dist keys found : List ℕ) : Type 0 where
  pub stood : List ℕ
  pub carried : AllCarried N parent stood
  pub afoot : Afoot N dist keys
  pub finding : Finding N Every stood dist keys found
  pub found_long : length found ≡ most_nodes

-- what the answer says: nothing changed, and nothing waits; or the loop has to run
pub data Reseeded (N : Net) (parent dist first dist' first' keys' : List ℕ) : Bool → Type 0 where
  still : Settled N dist' keys' → AllCarried N parent dist → ((v : ℕ) → dist_at N dist' v ≡ dist_at N dist v) → first' ≡ first
      → Reseeded N parent dist first dist' first' keys' false
  moves : length first' ≡ most_nodes → Reseeded N parent dist first dist' first' keys' true
