pub mod RecordLaws
pub mod FindLaws
pub mod RoomLaws
pub mod WriteLaws
pub mod FineLaws
pub mod RepeatLaws
pub mod Same
