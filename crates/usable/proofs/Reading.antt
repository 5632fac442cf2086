-- What is read of an accepted table and of whole arrays. Assumes nothing.
use mathlib.Core.Path.{◌≡◌}
use mathlib.Core.List.{List}
use Prim.Native.Nat.{ℕ, ◌<◌}
use native.Mathlib.Omega.{arith}
use lib.ListN.{length, get_or}
use Rattle.rules.specs.Columns.{Table, Proper, most_nodes}
use Rattle.rules.proofs.Logic.{get_d_any}

-- a link's start and end have rows
module _ {t : Table} (proper : Proper t) {k : ℕ} (is_link : k < length t.starts) where
  pub start_has_row : get_or t.starts k 0 < most_nodes
  start_has_row = omega (arith, proper.few_nodes, proper.starts k is_link)

  pub end_has_row : get_or t.ends k 0 < most_nodes
  end_has_row = omega (arith, proper.few_nodes, proper.ends k is_link)

-- below 256 an array is read as a row, whatever stands in for the others
pub read_row : (l : List ℕ) → length l ≡ most_nodes → (v other : ℕ) → v < most_nodes → get_or l v 0 ≡ get_or l v other
read_row l long v other has_row = get_d_any l v 0 other (omega arith)
