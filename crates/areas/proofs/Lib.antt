pub mod Moves
pub mod Puts
