pub mod Cases
pub mod Drops
pub mod Balance
pub mod Order
pub mod Answers
pub mod Rearranged
pub mod Fates
pub mod Theorem
