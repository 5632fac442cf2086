-- What the scope says of the printed lines, as definitions. Their words stand in the crate `words`.
pub mod Lines
