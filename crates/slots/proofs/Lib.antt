pub mod SlotLaws
pub mod RoomLaws
pub mod WriteLaws
pub mod KeepLaws
pub mod FineLaws
pub mod Same
