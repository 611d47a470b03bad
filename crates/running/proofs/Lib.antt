pub mod GoesOn
pub mod RunLaws
