-- What other languages take.
pub mod Verdicts
pub mod Readings
