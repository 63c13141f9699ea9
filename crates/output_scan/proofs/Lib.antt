pub mod Fields
pub mod Least
pub mod Records
pub mod Fixed
pub mod Spare
pub mod Layouts
