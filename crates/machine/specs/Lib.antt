pub mod Meets
pub mod Calls
