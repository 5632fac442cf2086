-- Theorems about specs/, in reading order.
pub mod Stands
pub mod Splits
pub mod Encoded
pub mod Pier
