pub mod Accepted
pub mod EntryLaws
