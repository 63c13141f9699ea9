pub mod Account
pub mod Claim
