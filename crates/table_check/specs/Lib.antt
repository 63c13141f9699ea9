pub mod Header
pub mod Room
pub mod Examined
