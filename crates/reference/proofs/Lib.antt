pub mod Marks
pub mod Targets
