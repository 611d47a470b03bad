pub mod ResponseLaws
