pub mod ComplaintLaws
pub mod LengthLaws
pub mod JoinLaws
pub mod TagLaws
pub mod Bare
