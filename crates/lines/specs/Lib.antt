pub mod Counts
pub mod Hex
pub mod Words
