pub mod SizeTable
pub mod PoolLaws
pub mod FormLaws
pub mod NameLaws
pub mod SoundLaws
