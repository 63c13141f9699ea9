pub mod Removing
pub mod Cut
pub mod Fit
