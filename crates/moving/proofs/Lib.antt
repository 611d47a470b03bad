pub mod MoveLaws
pub mod Parts
