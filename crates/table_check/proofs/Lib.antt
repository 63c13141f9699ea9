pub mod Header
pub mod Counted
pub mod Passes
pub mod WordsPasses
pub mod LiveSought
