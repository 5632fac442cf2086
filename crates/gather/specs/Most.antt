-- How many rows are read of a batch. Assumes nothing.
use Rattle.std.specs.Prelude.{ℕ}

-- one row more than a batch may have: a batch that has it is refused, whatever stands behind it
abbrev pub most_read : ℕ
most_read = 257
