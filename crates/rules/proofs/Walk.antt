pub mod Traverse
pub mod Levels
pub mod Reverse
pub mod Bounds
