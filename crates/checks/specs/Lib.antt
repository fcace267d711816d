pub mod Values
pub mod Passed
