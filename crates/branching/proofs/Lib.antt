pub mod SecuredLaws
pub mod ChooseLaws
pub mod Taken
