pub mod Pier
