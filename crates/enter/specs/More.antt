-- One link more behind the links so far, and one row more behind the rows that wait. Assumes nothing.
use Rattle.std.specs.Prelude.{◌≡◌, ◌≢◌, List, [], ◌∷◌, ◌++◌, ℕ, Option, None, Some, ◌<◌, ltb, eqb, length, get_or, set}
use Rattle.rules.specs.Tests.{first_below}
use Rattle.rules.specs.Columns.{Table, table, most_links, most_rows}
use Rattle.rules.specs.Refusals.{Verdict, accepted, refused, ◌then◌, when, judge_links, judge_rows}
use Rattle.rules.specs.Answers.{Answer, told}
use Rattle.rules.specs.declared.Change.{Change}
use Rattle.batch.specs.Rows.{rows_of_columns}

-- one entry more
abbrev pub with_one_more : List ℕ → ℕ → List ℕ
with_one_more l x = l ++ (x ∷ [])

abbrev pub with_link : Table → ℕ → ℕ → ℕ → Table
with_link t start end cost = table t.nodes t.root (with_one_more t.starts start) (with_one_more t.ends end) (with_one_more t.costs cost)

-- refusals 7 to 9 of the rows that wait and one more
abbrev pub judge_waiting : Table → List Change → Verdict
judge_waiting t rows = when (ltb most_rows (length rows)) 7 then judge_rows t rows

-- what is accepted is written at its place; a refusal leaves the column as it was
abbrev pub entered : Verdict → List ℕ → ℕ → ℕ → List ℕ
entered accepted column place x = set column place x
entered (refused number values) column place x = column

-- where the links so far are accepted, the answer is that of the table with this link as its last; none is accepted
-- that the columns have no place for
pub record LinkJudged (nodes : ℕ) (starts : List ℕ) (start end : ℕ) (answer : Answer) : Type 0 where
  pub verdict : (root : ℕ) (ends costs : List ℕ) (cost : ℕ) → judge_links (table nodes root starts ends costs) ≡ accepted
      → told answer ≡ judge_links (with_link (table nodes root starts ends costs) start end cost)
  pub room : told answer ≡ accepted → length starts < most_links

-- where the rows so far are accepted, the answer is that of the rows with this one as the last; none is accepted that
-- the columns have no place for
pub record RowJudged (links : ℕ) (changed : List ℕ) (link : ℕ) (answer : Answer) : Type 0 where
  pub verdict : (t : Table) (newcosts : List ℕ) (cost : ℕ) → length t.starts ≡ links → length newcosts ≡ length changed
      → judge_rows t (rows_of_columns changed newcosts) ≡ accepted
      → told answer ≡ judge_waiting t (rows_of_columns (with_one_more changed link) (with_one_more newcosts cost))
  pub room : told answer ≡ accepted → length changed < most_rows

-- the first row that names a link; their number where none does
abbrev pub first_naming : List ℕ → ℕ → ℕ
first_naming changed link = first_below (λ row. eqb (get_or changed row 0) link) (length changed)

-- the first row that names a link, or none: proofs/Rows.antt shows that it is the row above
abbrev pub FirstNaming : List ℕ → ℕ → Option ℕ → Type 0
FirstNaming changed link None = (row : ℕ) → row < length changed → get_or changed row 0 ≢ link
FirstNaming changed link (Some first) =
    (first < length changed) × (get_or changed first 0 ≡ link) × ((row : ℕ) → row < first → get_or changed row 0 ≢ link)
