pub mod Room
pub mod Settle
