pub mod Cases
pub mod BytesLaws
