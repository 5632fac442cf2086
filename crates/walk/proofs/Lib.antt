-- What the proofs by hand share, in reading order.
pub mod Kit
pub mod Called
pub mod Walk
