pub mod Tries
pub mod Turns
pub mod Levels
pub mod Filling
