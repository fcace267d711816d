pub mod Taken
pub mod Notes
