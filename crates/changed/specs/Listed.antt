-- The list of changed nodes, as the rules ask for it, whatever a profile's numbers are. Assumes nothing.
use Rattle.std.specs.Prelude.{◌≡◌, List, ℕ, length}
use Rattle.rules.specs.Columns.{Arrays, rows_in}
use Rattle.rules.specs.Jobs.{written, changed_below}
use Rattle.rules.specs.declared.Profile.{Profile}

-- the first n nodes have been looked at: those that changed stand at the front of the list, and are so many
pub record ListedBelow (old new : Arrays) (n : ℕ) (list listed : List ℕ) (count : ℕ) : Type 0 where
  pub front : (p : Profile) → listed ≡ written (changed_below (rows_in p old) (rows_in p new) n) list
  pub counted : (p : Profile) → count ≡ length (changed_below (rows_in p old) (rows_in p new) n)
