pub mod PackLaws
pub mod Small
pub mod Sent
pub mod Changes
pub mod ServeLaws
pub mod FitLaws
pub mod Unique
pub mod Lent
