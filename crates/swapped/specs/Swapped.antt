-- Batches that arrive one after another, in one order or another, and what is alike at the end. proofs/ shows it of
-- what every update hands back. Assumes nothing.
use Rattle.std.specs.Prelude.{◌≡◌, ◌≢◌, List, [], ◌∷◌, ℕ, ◌≤◌, ◌<◌, length}
use Rattle.rules.specs.Net.{Net}
use Rattle.rules.specs.Fit.{Rows, Reached, Tight}
use Rattle.rules.specs.Columns.{Table, Arrays, Whole, net_of, rows_of, with_costs}
use Rattle.rules.specs.Refusals.{Verdict, accepted, judge_batch, link_at}
use Rattle.rules.specs.Jobs.{Updated}
use Rattle.rules.specs.declared.Change.{Change}

-- ---- what arrives

-- Arrive t old batches s tree: from the table t and the tree old each batch is given to an update, which finds costs
-- and tree as the one before it has left them, whatever it was answered, and is lent a list with a place for each node;
-- at the end the table s and the tree stand
pub data Arrive : Table → Arrays → List (List Change) → Table → Arrays → Type 0 where
  none : {t : Table} {tree : Arrays} → Arrive t tree [] t tree
  next : {t s : Table} {old new tree : Arrays} {batch : List Change} {batches : List (List Change)} {list costs listed : List ℕ} {v : Verdict} {count : ℕ}
      → t.nodes ≤ length list → Updated t old batch list v new costs listed count → Arrive (with_costs t costs) new batches s tree
      → Arrive t old (batch ∷ batches) s tree

-- nothing speaks against the batch, where the lent list is long enough
abbrev pub Acceptable : Table → Arrays → List Change → Type 0
Acceptable t tree batch = judge_batch t tree batch ≡ accepted

-- no link is named by both
pub record NoCommonLink (batch other : List Change) : Type 0 where
  pub apart : (row at : ℕ) → row < length batch → at < length other → link_at batch row ≢ link_at other at

-- ---- any number of batches

pub data Each (So : List Change → Type 0) : List (List Change) → Type 0 where
  none : Each So []
  more : {batch : List Change} {batches : List (List Change)} → So batch → Each So batches → Each So (batch ∷ batches)

-- no link is named by two of them
pub data NoneCommon : List (List Change) → Type 0 where
  none : NoneCommon []
  more : {batch : List Change} {batches : List (List Change)} → Each (NoCommonLink batch) batches → NoneCommon batches → NoneCommon (batch ∷ batches)

-- the same batches in another order: two neighbours change places, again and again
pub data Reordered : List (List Change) → List (List Change) → Type 0 where
  same : {batches : List (List Change)} → Reordered batches batches
  swap : {one two : List Change} {batches : List (List Change)} → Reordered (one ∷ two ∷ batches) (two ∷ one ∷ batches)
  behind : {batch : List Change} {batches others : List (List Change)} → Reordered batches others → Reordered (batch ∷ batches) (batch ∷ others)
  again : {batches others last : List (List Change)} → Reordered batches others → Reordered others last → Reordered batches last

-- ---- what is alike at the end

-- at least two usable links into v are tight
pub record TwoTight (N : Net) (r : Rows) (v : ℕ) : Type 0 where
  pub one : ℕ
  pub other : ℕ
  pub are_two : one ≢ other
  pub one_tight : Tight N r one v
  pub other_tight : Tight N r other v

-- the same table, and so the same costs; the same distances; the same set of reached nodes; and a node's parent
-- differs only where at least two usable links into it are tight. First links aren't spoken of
pub record SameEnd (t : Table) (tree : Arrays) (s : Table) (other : Arrays) : Type 0 where
  pub table : t ≡ s
  pub costs : t.costs ≡ s.costs
  pub distances : tree.dist ≡ other.dist
  pub reached : (v : ℕ) → Reached (net_of t) (rows_of tree) v → Reached (net_of s) (rows_of other) v
  pub only_reached : (v : ℕ) → Reached (net_of s) (rows_of other) v → Reached (net_of t) (rows_of tree) v
  pub parents : (v : ℕ) → (rows_of tree).parent v ≢ (rows_of other).parent v → TwoTight (net_of t) (rows_of tree) v

-- the claim that an entry of a node is the same in either order: it is so of distances, and proofs/Pier.antt refutes it of
-- parents and of first links
pub record AlwaysSame (entry : Arrays → ℕ → ℕ) : Type 0 where
  pub same : {t s z : Table} {old tree other : Arrays} {one two : List Change} → Whole old → Acceptable t old one → Acceptable t old two → NoCommonLink one two
      → Arrive t old (one ∷ two ∷ []) s tree → Arrive t old (two ∷ one ∷ []) z other → (v : ℕ) → entry tree v ≡ entry other v
