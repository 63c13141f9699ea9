pub mod Input
pub mod Body
pub mod Tests
