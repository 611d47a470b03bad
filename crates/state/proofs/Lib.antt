pub mod Parts
pub mod PageLaws
pub mod CreateLaws
pub mod RestLaws
pub mod Canonical
pub mod Changes
