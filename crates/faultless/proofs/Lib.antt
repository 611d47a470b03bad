pub mod Front
pub mod CleanLaws
pub mod SlotLaws
pub mod PageLaws
