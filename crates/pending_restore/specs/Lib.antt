pub mod Restoring
pub mod Promises
