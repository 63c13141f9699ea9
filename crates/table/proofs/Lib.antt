pub mod Words
pub mod Parts
pub mod Facts
pub mod Draws
pub mod Index
pub mod Labels
pub mod Lookups
pub mod FoundLabels
