pub mod Spans
pub mod Parts
