pub mod Turns
pub mod Tests
