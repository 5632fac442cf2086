pub mod Afoot
pub mod Finding
