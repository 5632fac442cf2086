-- Theorems about specs/, and what walks by hand share.
pub mod Laws
pub mod Passed
