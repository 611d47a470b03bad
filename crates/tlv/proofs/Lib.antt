pub mod Bounds
pub mod Rows
pub mod RowBounds
pub mod PairRows
pub mod Ways
