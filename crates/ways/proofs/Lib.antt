pub mod WayLaws
pub mod Steps
pub mod Bounds
pub mod Short
