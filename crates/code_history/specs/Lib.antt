pub mod Runs
pub mod Claim
