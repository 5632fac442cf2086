-- The lemmas that the functions' proofs share, in reading order.
pub mod Moves
pub mod Laws
