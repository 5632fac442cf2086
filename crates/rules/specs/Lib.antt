-- What the scope says, as definitions, in reading order. Laws about them stand in proofs/, theorems in the crates
-- `demands`, `pier` and `once`.
pub mod Net
pub mod Fit
pub mod Keep
pub mod Tests
pub mod Columns
pub mod Lent
pub mod Refusals
pub mod Applies
pub mod Answers
pub mod Jobs
pub mod Demands
