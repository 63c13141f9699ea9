pub mod Ends
pub mod Cuts
pub mod Ramp
