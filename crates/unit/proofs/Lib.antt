pub mod Nths
pub mod Units
