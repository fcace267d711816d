pub mod Loads
pub mod Stages
pub mod Ends
pub mod Answers
pub mod Unique
