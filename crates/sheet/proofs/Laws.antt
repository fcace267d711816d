pub mod Calls
pub mod Built
pub mod Unique
