pub mod Answers
pub mod Figures
