pub mod ComplaintLaws
pub mod ServiceLaws
pub mod VariableLaws
pub mod Bare
