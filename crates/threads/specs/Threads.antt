-- The rows of a batch on 512 threads, by the numbers of their links, so that a row is compared with few others.
-- Assumes nothing.
use Rattle.std.specs.Prelude.{◌≡◌, ◌≢◌, List, ℕ, suc, Option, None, Some, ◌≤◌, ◌<◌, ◌%◌, length, get_or}
use Rattle.rules.specs.Columns.{most_rows}
use Rattle.threads.specs.declared.Threads.{Threads}

abbrev pub thread_count : ℕ
thread_count = 512

-- which thread the row of a link is on
abbrev pub thread_of : ℕ → ℕ
thread_of link = link % thread_count

-- of the rows before row n, end is one more than the last on this thread, and 0 where none is
pub record LastOn (links : List ℕ) (n thread end : ℕ) : Type 0 where
  pub within : end ≤ n
  pub on_thread : (row : ℕ) → suc row ≡ end → thread_of (get_or links row 0) ≡ thread
  pub none_later : (row : ℕ) → end ≤ row → row < n → thread_of (get_or links row 0) ≢ thread

-- the first n rows name a link each of their own; ends tells each thread's last row, and before the row before each
pub record Threaded (links : List ℕ) (threads : Threads) (n : ℕ) : Type 0 where
  pub within : n ≤ length links
  pub ends_long : length threads.ends ≡ thread_count
  pub before_long : length threads.before ≡ most_rows
  pub few : n ≤ most_rows
  pub apart : (i j : ℕ) → i < j → j < n → get_or links i 0 ≢ get_or links j 0
  pub last : (thread : ℕ) → thread < thread_count → LastOn links n thread (get_or threads.ends thread 0)
  pub earlier : (row : ℕ) → row < n → LastOn links row (thread_of (get_or links row 0)) (get_or threads.before row 0)

-- r is the earliest of the first n rows that names the link, or n where none does
pub record Earliest (links : List ℕ) (n link r : ℕ) : Type 0 where
  pub within : r ≤ n
  pub names : r < n → get_or links r 0 ≡ link
  pub none_before : (row : ℕ) → row < r → get_or links row 0 ≢ link

-- the same as an answer: the row, or none
abbrev pub EarliestOf : List ℕ → ℕ → ℕ → Option ℕ → Type 0
EarliestOf links n link None = Earliest links n link n
EarliestOf links n link (Some r) = (r < n) × Earliest links n link r
