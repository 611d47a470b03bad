pub mod ExecuteLaws
pub mod ToldLaws
pub mod Bare
