pub mod Most
pub mod Gathering
