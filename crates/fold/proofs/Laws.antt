pub mod Stages
pub mod Checks
pub mod Unique
