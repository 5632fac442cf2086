pub mod Prints
pub mod Least
