pub mod Six
pub mod Attempt
