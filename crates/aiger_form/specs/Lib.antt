pub mod Text
pub mod Aag
pub mod Meaning
pub mod Calls
pub mod Jobs
pub mod Windows
pub mod Opened
