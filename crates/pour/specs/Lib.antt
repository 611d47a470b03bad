pub mod Pour
pub mod Stride
