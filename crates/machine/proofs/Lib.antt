pub mod Parts
pub mod CallLaws
pub mod RunLaws
pub mod Unique
pub mod Isolation
