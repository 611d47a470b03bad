pub mod Lift
pub mod StoreLaws
