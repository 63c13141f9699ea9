pub mod Digits
pub mod Splits
