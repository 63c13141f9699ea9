pub mod Limits
pub mod Age
