-- What the tests of a row decide. Assumes nothing.
use mathlib.Core.Path.{◌≡◌, refl, sym, ◌∙◌}
use mathlib.Core.Logic.{◌≢◌}
use mathlib.Core.Bool.{Bool, true, false, ◌&&◌, and-true, and-false, true≢false}
use Prim.Native.Nat.{ℕ, ◌≤◌, ◌<◌}
use native.Mathlib.Decide.{ℕ_discrete}
use lib.Dec.{eqb, ltb}
use lib.ListN.{length, get_or}
use borrow.Author.Tests.{lt-ltb, le-ltb, eq-eqb, ne_eqb}
use Rattle.rules.specs.Net.{Net}
use Rattle.rules.specs.Fit.{Rows}
use Rattle.rules.specs.Tests.{usable}
use Rattle.rules.specs.Keep.{one}
use Rattle.rules.specs.Columns.{Table, Proper, Arrays, Whole, net_in, rows_in, some_leads, most_nodes, no_link}
use Rattle.rules.specs.declared.Profile.{Profile}
use Rattle.usable.proofs.Reading.{start_has_row, read_row}
use Rattle.backed.specs.Backed.{usable_by}
use Rattle.alone.specs.Alone.{empty_at, tight_by, first_of, hung_by, hung_alone, row_alone}

-- a row as it is read
module _ (p : Profile) {tree : Arrays} (whole : Whole tree) {v : ℕ} (has_row : v < most_nodes) where
  pub dist_read : get_or tree.dist v 0 ≡ (rows_in p tree).dist v
  dist_read = read_row tree.dist whole.dist v p.mark has_row

  pub parent_read : get_or tree.parent v 0 ≡ (rows_in p tree).parent v
  parent_read = read_row tree.parent whole.parent v no_link has_row

  pub first_read : get_or tree.first v 0 ≡ (rows_in p tree).first v
  first_read = read_row tree.first whole.first v no_link has_row

module _ {t : Table} (proper : Proper t) {k : ℕ} (is_link : k < length t.starts) where
  -- what is read of a link, of its start and of a node decides
  pub hung_by_reads : (p : Profile) {tree : Arrays} (whole : Whole tree) {v : ℕ} → v < most_nodes
      → hung_by (net_in p t) (rows_in p tree).dist (rows_in p tree).first k v
      ≡ (tight_by p.mark v (get_or tree.dist v 0) (get_or t.ends k 0) (get_or t.costs k 0) (get_or tree.dist (get_or t.starts k 0) 0)
      && eqb (get_or tree.first v 0) (first_of t.root k (get_or t.starts k 0) (get_or tree.first (get_or t.starts k 0) 0)) && usable (net_in p t) k)
  unfolding hung_by
  hung_by_reads p whole has_row =
      rw (
        dist_read p whole (start_has_row proper is_link),
        dist_read p whole has_row,
        first_read p whole (start_has_row proper is_link),
        first_read p whole has_row,
      )

  -- a link is usable by the mark of its end
  pub usable_marked : (p : Profile) {v mark : ℕ} → get_or t.ends k 0 ≡ v → mark ≡ one (some_leads t v (get_or t.starts k 0))
      → usable_by mark (get_or t.costs k 0) ≡ usable (net_in p t) k
  unfolding usable
  usable_marked p {v} {mark} ends is = by (some_leads t v (get_or t.starts k 0)) refl
    where
      by : (b : Bool) → b ≡ some_leads t v (get_or t.starts k 0) → usable_by mark (get_or t.costs k 0)
          ≡ (ltb k (length t.starts) && ltb 0 (get_or t.costs k 0) && some_leads t (get_or t.ends k 0) (get_or t.starts k 0))
      by true e = rw (is, ends, ← e, lt-ltb k (length t.starts) is_link, and-true)
      by false e = rw (is, ends, ← e, and-false)

-- a link that is tight for a node ends there
pub tight_ends : (mark v dist end cost from : ℕ) {b : Bool} → b ≡ tight_by mark v dist end cost from → b ≡ true → end ≡ v
tight_ends mark v dist end cost from is passes = at (ℕ_discrete end v)
  where
    at : Dec (end ≡ v) → end ≡ v
    at (yes e) = e
    at (no n) = absurd (true≢false (sym passes ∙ is ∙ rw (ne_eqb end v n)))

-- ---- a row by itself

module _ (N : Net) (r : Rows) (v : ℕ) where
  -- no node hangs at or above the node count
  pub hung_past : N.nodes ≤ v → false ≡ hung_alone N r v
  unfolding hung_alone
  hung_past l = rw (le-ltb v N.nodes l)

  -- none hangs at the ceiling or above
  pub hung_far : v < N.nodes → N.ceiling ≤ r.dist v → false ≡ hung_alone N r v
  unfolding hung_alone
  hung_far is_node far = rw (lt-ltb v N.nodes is_node, le-ltb (r.dist v) N.ceiling far)

  module _ (is_node : v < N.nodes) (is_route : r.dist v < N.ceiling) where
    here : hung_alone N r v ≡ hung_by N r.dist r.first (r.parent v) v
    unfolding hung_alone
    here = rw (lt-ltb v N.nodes is_node, lt-ltb (r.dist v) N.ceiling is_route)

    -- none hangs by what is no link
    pub hung_unlinked : N.links ≤ r.parent v → false ≡ hung_alone N r v
    unfolding hung_by usable
    hung_unlinked past = rw (here, le-ltb (r.parent v) N.links past, and-false)

    pub hung_by_lem : {b : Bool} → b ≡ hung_by N r.dist r.first (r.parent v) v → b ≡ hung_alone N r v
    hung_by_lem is = is ∙ sym here

  -- the root's row is empty at distance 0
  pub row_root : {b : Bool} → b ≡ empty_at N.none 0 (r.dist v) (r.parent v) (r.first v) → v ≡ N.root → b ≡ row_alone N r v
  unfolding row_alone
  row_root is at_root = rw (eq-eqb v N.root at_root) is

  -- an unreached node's is empty
  pub row_bare : {b : Bool} → b ≡ empty_at N.none N.mark (r.dist v) (r.parent v) (r.first v) → v ≢ N.root → r.dist v ≡ N.mark
      → b ≡ row_alone N r v
  unfolding row_alone
  row_bare is off_root far = rw (ne_eqb v N.root off_root, eq-eqb (r.dist v) N.mark far) (rw (eq-eqb (r.dist v) N.mark far) at is)

  -- any other hangs
  pub row_hung : {b : Bool} → b ≡ hung_alone N r v → v ≢ N.root → r.dist v ≢ N.mark → b ≡ row_alone N r v
  unfolding row_alone
  row_hung is off_root near = rw (ne_eqb v N.root off_root, ne_eqb (r.dist v) N.mark near) is
