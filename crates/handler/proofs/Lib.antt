pub mod Actions
pub mod Lists
