pub mod ShowLaws
pub mod ReadLaws
pub mod CardStrings
