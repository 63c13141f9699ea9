pub mod Moves
pub mod Left
pub mod Resized
pub mod Answers
