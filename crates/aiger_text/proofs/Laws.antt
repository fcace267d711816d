pub mod Cut
pub mod Passes
pub mod Lines
pub mod Resets
pub mod Windows
pub mod Whole
pub mod Verdict
