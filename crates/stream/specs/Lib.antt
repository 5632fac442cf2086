-- What the scope says of the record stream, as definitions. Theorems about whole streams stand in the crate `splits`.
pub mod Records
