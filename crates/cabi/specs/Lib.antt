pub mod Packed
pub mod Serves
