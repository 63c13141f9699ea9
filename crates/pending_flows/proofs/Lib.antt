pub mod Openings
pub mod Templates
pub mod Questions
pub mod HeldRows
pub mod Weights
pub mod Figures
