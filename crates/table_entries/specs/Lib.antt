pub mod Stays
pub mod Sums
pub mod Sweep
pub mod Pack
