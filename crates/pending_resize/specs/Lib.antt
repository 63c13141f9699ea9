pub mod Shrink
pub mod Promises
