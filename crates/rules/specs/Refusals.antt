-- The table of refusals: when each number applies, what it carries, and which of several is given. Assumes nothing.
use Rattle.std.specs.Prelude.{Bool, ◌||◌, not, cond, List, ℕ, ◌-◌, eqb, ltb, leb, length, get_or}
use Rattle.rules.specs.Tests.{first_below, reached, breaks}
use Rattle.rules.specs.Columns.{Table, Arrays, narrow, net_in, net_of, rows_in, rows_of, most_nodes, most_links, most_rows, no_link}
use Rattle.rules.specs.declared.Change.{Change}
use Rattle.rules.specs.declared.Profile.{Profile}

infixr 40 ◌then◌
-- what a refusal carries: a value, and a second one that only 9 has. Where the table has none it is 0.
pub record Values : Type 0 where
  pub value : ℕ
  pub second : ℕ

abbrev pub both : ℕ → ℕ → Values
both value second = record { value = value; second = second }

abbrev pub only : ℕ → Values
only value = both value 0

-- accepted, or refused with a number of the table and the values that it carries
pub data Verdict : Type 0 where
  accepted : Verdict
  refused : (number : ℕ) (values : Values) → Verdict

-- the smallest number is given: numbers are asked in rising order, and the first that applies decides
abbrev pub ◌then◌ : Verdict → Verdict → Verdict
accepted then later = later
refused number values then later = refused number values

-- a refusal that applies where the test passes, and carries 0
abbrev pub when : Bool → ℕ → Verdict
when test number = cond test (refused number (only 0)) accepted

-- a refusal that applies where one of the first n places passes the test, and carries the first such place
abbrev pub when_one : ℕ → (ℕ → Bool) → ℕ → Verdict
when_one n test number = cond (ltb (first_below test n) n) (refused number (only (first_below test n))) accepted

-- 1: node count 0 or over 256
abbrev pub wrong_node_count : Table → Bool
wrong_node_count t = eqb t.nodes 0 || ltb most_nodes t.nodes

-- 2: root not below the node count
abbrev pub wrong_root : Table → Bool
wrong_root t = leb t.nodes t.root

-- 3: columns of unequal length, or over 4,096 links
abbrev pub wrong_columns : Table → Bool
wrong_columns t =
    not (eqb (length t.starts) (length t.ends)) || not (eqb (length t.starts) (length t.costs))
    || ltb most_links (length t.starts)

-- 4: a link's start or end not below the node count, or start = end
abbrev pub wrong_ends : ℕ → ℕ → ℕ → Bool
wrong_ends nodes start end = leb nodes start || leb nodes end || eqb start end

unfoldable pub wrong_ends_at : Table → ℕ → Bool
wrong_ends_at t k = wrong_ends t.nodes (get_or t.starts k 0) (get_or t.ends k 0)

-- 5: a link's start is below the one before it (link 0 has none before it, and 0 - 1 is 0)
unfoldable pub wrong_order_at : Table → ℕ → Bool
wrong_order_at t k = ltb (get_or t.starts k 0) (get_or t.starts (k - 1) 0)

-- 4 and 5, link by link
abbrev pub judge_each : Table → Verdict
judge_each t = when_one (length t.starts) (wrong_ends_at t) 4 then when_one (length t.starts) (wrong_order_at t) 5

unfoldable pub judge_links : Table → Verdict
unfolding wrong_ends_at wrong_order_at first_below
judge_links t = when (wrong_node_count t) 1 then when (wrong_root t) 2 then when (wrong_columns t) 3 then judge_each t

-- 6: the tree given doesn't fit; the smallest node that breaks a rule
abbrev pub judge_tree_in : Profile → Table → Arrays → Verdict
judge_tree_in p t tree = judge_links t then when_one most_nodes (breaks (net_in p t) (rows_in p tree)) 6

unfoldable pub judge_tree : Table → Arrays → Verdict
unfolding judge_links breaks first_below
judge_tree t tree = judge_tree_in narrow t tree

-- the link that a row names
unfoldable pub link_at : List Change → ℕ → ℕ
link_at batch row = (get_or batch row (record { link = no_link; cost = 0 })).link

-- 8: a row names no link of the table
unfoldable pub names_no_link : Table → List Change → ℕ → Bool
unfolding link_at
names_no_link t batch row = leb (length t.starts) (link_at batch row)

-- the earliest row before a row that names the same link, or the row itself
abbrev pub earliest : List Change → ℕ → ℕ
earliest batch row = first_below (λ earlier. eqb (link_at batch earlier) (link_at batch row)) row

-- 9: a row names a link of an earlier row
unfoldable pub names_again : List Change → ℕ → Bool
unfolding link_at first_below
names_again batch row = ltb (earliest batch row) row

-- 8 and 9 are judged together, row by row: the first bad row decides. 9 carries the earliest row with the same link too.
unfoldable pub first_bad_row : Table → List Change → ℕ
unfolding names_no_link names_again first_below
first_bad_row t batch = first_below (λ row. names_no_link t batch row || names_again batch row) (length batch)

unfoldable pub judge_rows : Table → List Change → Verdict
unfolding first_bad_row
judge_rows t batch =
    cond (ltb (first_bad_row t batch) (length batch))
    (refused (cond (names_no_link t batch (first_bad_row t batch)) 8 9)
    (both (first_bad_row t batch) (cond (names_no_link t batch (first_bad_row t batch)) 0 (earliest batch (first_bad_row t batch)))))
    accepted

-- 7: over 256 rows
unfoldable pub judge_batch : Table → Arrays → List Change → Verdict
unfolding judge_tree judge_rows
judge_batch t tree batch = judge_tree t tree then when (ltb most_rows (length batch)) 7 then judge_rows t batch

-- 12: the lent list is shorter than the node count
unfoldable pub judge_update : Table → Arrays → List Change → List ℕ → Verdict
unfolding judge_batch
judge_update t tree batch list = judge_batch t tree batch then when (ltb (length list) t.nodes) 12

-- 10: asked node not below the node count; 11: asked node is unreached (12 for a path stands in Jobs.antt, where
-- the path is known)
unfoldable pub judge_asked : Table → Arrays → ℕ → Verdict
unfolding judge_tree reached
judge_asked t tree node =
    judge_tree t tree then
    when (leb t.nodes node) 10 then
    when (not (reached (net_of t) (rows_of tree) node)) 11
