-- The lemmas that the functions' proofs share, in reading order.
pub mod Laws
pub mod Keeps
