pub mod Passes
pub mod Lines
pub mod Whole
pub mod File
