pub mod TypeLaws
pub mod Bare
