-- P1 to P12 shown of the rules, and the wrong programs refuted on them.
pub mod Pier
pub mod Wrong
