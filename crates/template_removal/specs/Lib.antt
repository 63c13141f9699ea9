pub mod Packing
pub mod Taking
