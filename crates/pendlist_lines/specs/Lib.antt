pub mod Grammar
pub mod Tests
