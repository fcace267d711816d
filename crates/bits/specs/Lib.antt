pub mod Fields
pub mod Putting
