pub mod Watched
pub mod LiveWatch
pub mod Verdicts
