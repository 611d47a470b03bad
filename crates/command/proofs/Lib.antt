pub mod SentLaws
pub mod CommandLaws
pub mod Bare
