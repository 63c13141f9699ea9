pub mod Views
pub mod Steps
pub mod Theorem
