pub mod Close
pub mod Add
pub mod Choose
pub mod Take
pub mod Passes
pub mod Whole
