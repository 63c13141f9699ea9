pub mod HeldBodies
pub mod Rooms
pub mod Additions
