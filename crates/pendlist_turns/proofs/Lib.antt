pub mod FrontReady
pub mod Cuts
