-- What the scope says of each record, as definitions, in reading order. What is shown of them stands in the crate `outcomes`.
pub mod Holding
pub mod Steps
pub mod Parts
