pub mod Entries
pub mod Links
pub mod Rows
