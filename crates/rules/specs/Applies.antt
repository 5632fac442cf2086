-- 01's table of refusals in its own words: which numbers apply to an input, and what each then carries. Several may
-- apply: proofs/Applies.antt shows that every job gives the smallest. Assumes nothing.
use Rattle.std.specs.Prelude.{◌≡◌, ◌≢◌, List, ℕ, ◌-◌, ◌≤◌, ◌<◌, length, get_or}
use Rattle.rules.specs.Fit.{Row, Path}
use Rattle.rules.specs.Columns.{Table, Arrays, net_of, rows_of, most_nodes, most_links, most_rows, unreached}
use Rattle.rules.specs.Refusals.{Values, only, both, Verdict, accepted, refused, link_at}
use Rattle.rules.specs.declared.Change.{Change}

-- the first of n places of which something is so
pub record FirstOf (n : ℕ) (So : ℕ → Type 0) (place : ℕ) : Type 0 where
  pub is_place : place < n
  pub is_so : So place
  pub none_before : (i : ℕ) → i < place → So i → ⊥

-- ---- a table of links, judged and built on: 1 to 5

-- its start or end not below the node count, or start = end
pub data BadEnds (t : Table) (k : ℕ) : Type 0 where
  start_no_node : t.nodes ≤ get_or t.starts k 0 → BadEnds t k
  end_no_node : t.nodes ≤ get_or t.ends k 0 → BadEnds t k
  start_is_end : get_or t.starts k 0 ≡ get_or t.ends k 0 → BadEnds t k

-- its start is below the one before it
pub record Falls (t : Table) (k : ℕ) : Type 0 where
  pub has_before : 0 < k
  pub below : get_or t.starts k 0 < get_or t.starts (k - 1) 0

pub data OfTable (t : Table) : (number : ℕ) (values : Values) → Type 0 where
  -- node count 0 or over 256
  no_nodes : t.nodes ≡ 0 → OfTable t 1 (only 0)
  many_nodes : most_nodes < t.nodes → OfTable t 1 (only 0)
  -- root not below the node count
  root_no_node : t.nodes ≤ t.root → OfTable t 2 (only 0)
  -- columns of unequal length, or over 4,096 links
  ends_unequal : length t.starts ≢ length t.ends → OfTable t 3 (only 0)
  costs_unequal : length t.starts ≢ length t.costs → OfTable t 3 (only 0)
  many_links : most_links < length t.starts → OfTable t 3 (only 0)
  -- a link's start or end not below the node count, or start = end: first such link
  bad_ends : {k : ℕ} → FirstOf (length t.starts) (BadEnds t) k → OfTable t 4 (only k)
  -- a link's start is below the one before it: first such link
  wrong_order : {k : ℕ} → FirstOf (length t.starts) (Falls t) k → OfTable t 5 (only k)

-- ---- a tree: 1 to 6

pub data OfTree (t : Table) (tree : Arrays) : (number : ℕ) (values : Values) → Type 0 where
  of_table : {number : ℕ} {values : Values} → OfTable t number values → OfTree t tree number values
  -- the tree given doesn't fit: smallest node that breaks a rule
  unfit : {node : ℕ} → FirstOf most_nodes (λ v. Row (net_of t) (rows_of tree) v → ⊥) node → OfTree t tree 6 (only node)

-- ---- an update: 1 to 9 and 12

pub data BadRow (t : Table) (batch : List Change) (row : ℕ) : (number second : ℕ) → Type 0 where
  -- a row names no link of the table
  no_such_link : length t.starts ≤ link_at batch row → BadRow t batch row 8 0
  -- a row names a link of an earlier row: the earliest of these
  again : {earlier : ℕ} → FirstOf row (λ i. link_at batch i ≡ link_at batch row) earlier → BadRow t batch row 9 earlier

pub data Bad (t : Table) (batch : List Change) (row : ℕ) : Type 0 where
  bad : {number second : ℕ} → BadRow t batch row number second → Bad t batch row

pub data OfUpdate (t : Table) (old : Arrays) (batch : List Change) (list : List ℕ) : (number : ℕ) (values : Values) → Type 0 where
  of_tree : {number : ℕ} {values : Values} → OfTree t old number values → OfUpdate t old batch list number values
  -- over 256 rows
  many_rows : most_rows < length batch → OfUpdate t old batch list 7 (only 0)
  -- 8 and 9 are judged together, row by row: the first bad row decides
  bad_row : {number row second : ℕ} → BadRow t batch row number second → FirstOf (length batch) (Bad t batch) row
      → OfUpdate t old batch list number (both row second)
  -- lent list too short: under the node count
  list_short : length list < t.nodes → OfUpdate t old batch list 12 (only 0)

-- ---- a path: 1 to 6 and 10 to 12

pub data OfPath (t : Table) (tree : Arrays) (node : ℕ) (list : List ℕ) : (number : ℕ) (values : Values) → Type 0 where
  of_tree : {number : ℕ} {values : Values} → OfTree t tree number values → OfPath t tree node list number values
  -- asked node not below the node count
  no_node : t.nodes ≤ node → OfPath t tree node list 10 (only 0)
  -- asked node is unreached
  no_route : (rows_of tree).dist node ≡ unreached → OfPath t tree node list 11 (only 0)
  -- lent list too short: under its length
  list_short : {links : List ℕ} → Path (net_of t) (rows_of tree) node links → length list < length links → OfPath t tree node list 12 (only 0)

-- ---- which of several is given

-- acceptance where none applies, else the smallest number that does, with the values that it carries
pub data Gives (Applies : (number : ℕ) (values : Values) → Type 0) : Verdict → Type 0 where
  none : ((number : ℕ) (values : Values) → Applies number values → ⊥) → Gives Applies accepted
  smallest : {number : ℕ} {values : Values} → Applies number values → ((other : ℕ) (x : Values) → Applies other x → number ≤ other)
      → ((x : Values) → Applies number x → x ≡ values) → Gives Applies (refused number values)
