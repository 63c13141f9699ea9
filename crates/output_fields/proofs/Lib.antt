pub mod Tails
pub mod Widths
