-- Theorems about specs/, in reading order.
pub mod Notes
pub mod Lifts
