pub mod View
pub mod Header
pub mod Opening
