pub mod Promises
pub mod Handing
