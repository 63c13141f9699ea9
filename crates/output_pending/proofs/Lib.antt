pub mod Materials
pub mod Refusals
