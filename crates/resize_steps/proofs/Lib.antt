pub mod Steps
pub mod Rows
pub mod Chosen
pub mod Cuts
pub mod Fits
pub mod Places
