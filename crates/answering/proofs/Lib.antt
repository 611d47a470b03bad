pub mod Silent
pub mod AnswerLaws
