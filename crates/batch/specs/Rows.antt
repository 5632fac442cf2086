-- A batch that comes as two lent columns, what judging its rows answers, and what writing its costs asks for.
-- Assumes nothing.
use Rattle.std.specs.Prelude.{◌≡◌, List, [], ◌∷◌, ℕ, ◌<◌, ltb, length, get_or}
use Rattle.rules.specs.Columns.{Table, most_rows}
use Rattle.rules.specs.Refusals.{◌then◌, when, judge_rows, link_at}
use Rattle.rules.specs.Answers.{Answer, told}
use Rattle.rules.specs.declared.Change.{Change}
use Rattle.batch.specs.declared.Columns.{Columns}

-- a row for each place that both columns have
unfoldable pub rows_of_columns : List ℕ → List ℕ → List Change
rows_of_columns [] costs = []
rows_of_columns (link ∷ links) [] = []
rows_of_columns (link ∷ links) (cost ∷ costs) = record { link = link; cost = cost } ∷ rows_of_columns links costs

abbrev pub rows_of : Columns → List Change
rows_of columns = rows_of_columns columns.links.now columns.costs.now

-- a row as it stands in both columns
abbrev pub change_at : Columns → ℕ → Change
change_at columns row = record { link = get_or columns.links.now row 0; cost = get_or columns.costs.now row 0 }

-- refusals 8 and 9 of the batch, for any table with so many links
pub record RowsJudged (links : ℕ) (batch : List Change) (answer : Answer) : Type 0 where
  pub verdict : (t : Table) → length t.starts ≡ links → told answer ≡ judge_rows t batch

-- refusals 7 to 9
pub record BatchJudged (links : ℕ) (batch : List Change) (answer : Answer) : Type 0 where
  pub verdict : (t : Table) → length t.starts ≡ links → told answer ≡ (when (ltb most_rows (length batch)) 7 then judge_rows t batch)

-- each row names one of so many links
pub record Named (links : ℕ) (batch : List Change) : Type 0 where
  pub named : (row : ℕ) → row < length batch → link_at batch row < links
