pub mod Words
pub mod Putting
