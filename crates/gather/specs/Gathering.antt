-- The rows of a batch by columns, as many as are read of it. Assumes nothing.
use Rattle.std.specs.Prelude.{◌≡◌, List, ℕ, ◌≤◌, replicate, take, drop}
use Rattle.rules.specs.declared.Change.{Change}
use Rattle.batch.specs.Rows.{rows_of_columns}
use Rattle.gather.specs.Most.{most_read}
use Rattle.gather.specs.declared.rows.Rows.{Rows}

-- a column before any row is stored
abbrev pub blank : List ℕ
blank = replicate most_read 0

-- the rows at the front of the columns
abbrev pub batch_of : Rows → List Change
batch_of r = rows_of_columns (take r.count r.link) (take r.count r.cost)

-- the first rows of a batch, and past them nothing stored
pub record Gathered (batch : List Change) (r : Rows) : Type 0 where
  pub rows : batch_of r ≡ take most_read batch
  pub few : r.count ≤ most_read
  pub links_past : drop r.count r.link ≡ drop r.count blank
  pub costs_past : drop r.count r.cost ≡ drop r.count blank
