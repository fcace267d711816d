pub mod Kept
pub mod Sizes
pub mod Pins
pub mod Rooms
