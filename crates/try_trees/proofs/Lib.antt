pub mod Example
pub mod Trials
