pub mod RowLaws
pub mod ComplaintLaws
pub mod SetLaws
