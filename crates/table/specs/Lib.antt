pub mod Layout
pub mod Table
pub mod Parts
pub mod WellFormed
pub mod Passes
pub mod Reads
