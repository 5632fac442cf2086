pub mod Reading
pub mod Leads
pub mod Asked
