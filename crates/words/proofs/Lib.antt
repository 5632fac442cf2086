-- The lemmas that the functions' proofs share.
pub mod Laws
