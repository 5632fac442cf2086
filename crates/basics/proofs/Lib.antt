pub mod Answers
pub mod Arrays
