-- Theorems about specs/ and the proofs of the functions.
pub mod Laws
