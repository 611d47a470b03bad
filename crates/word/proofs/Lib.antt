pub mod WordLaws
pub mod Same
pub mod Parts
