-- The costs that batches leave, which batches stay acceptable, and what is alike; the pier network's parents differ.
pub mod Costs
pub mod Acceptable
pub mod SameEnd
pub mod Pier
