pub mod Inputs
pub mod Faults
pub mod Reading
