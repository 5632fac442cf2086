-- A whole stream as the records that it holds, and records as bytes, in reading order. Theorems about them stand in proofs/.
pub mod Splitting
pub mod Encoding
