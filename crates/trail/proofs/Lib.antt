pub mod CutLaws
pub mod TrailLaws
pub mod FineLaws
pub mod Same
