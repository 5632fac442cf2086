pub mod Tells
pub mod Leaving
