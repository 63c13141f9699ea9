pub mod Promises
pub mod Removal
