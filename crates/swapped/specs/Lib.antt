pub mod Swapped
pub mod Pier
