pub mod Size
pub mod Padding
