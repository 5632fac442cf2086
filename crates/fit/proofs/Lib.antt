pub mod Breaks
pub mod Smallest
