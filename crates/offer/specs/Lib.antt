pub mod Offer
pub mod Searching
