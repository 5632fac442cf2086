-- Theorems about specs/ and about what a record does, in reading order.
pub mod OneOutcome
pub mod Listed
pub mod Led
pub mod Costs
