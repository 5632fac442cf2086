-- Theorems about specs/, in reading order.
pub mod Reach
pub mod Offers
pub mod Finds
pub mod Heard
pub mod Weight
pub mod Rounds
