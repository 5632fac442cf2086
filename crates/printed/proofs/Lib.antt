-- Theorems about specs/ and about the lines, in reading order.
pub mod Decimal
pub mod Samples
pub mod Runs
pub mod Written
pub mod Ways
pub mod Alike
pub mod Once
pub mod Costs
pub mod Least
