-- Theorems about specs/, and the lemmas that the functions' proofs share, in reading order.
pub mod Laws
pub mod Cut
pub mod Lent
pub mod Column
