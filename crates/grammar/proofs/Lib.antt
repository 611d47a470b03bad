pub mod Every
pub mod Tables
pub mod RowLaws
