pub mod LookLaws
pub mod WalkLaws
pub mod StructureLaws
