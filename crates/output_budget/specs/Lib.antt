pub mod Told
pub mod Budget
