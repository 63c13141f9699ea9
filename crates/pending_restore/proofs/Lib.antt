pub mod RestoredRows
pub mod Restored
pub mod Chances
pub mod Restores
