-- The demands, in their order, with what they rest on.
pub mod Judged
pub mod Refused
pub mod Fits
pub mod Changed
pub mod Kept
pub mod Demands
