pub mod Inputs
pub mod ListRead
