pub mod Many
pub mod Steps
pub mod Walk
pub mod Answers
pub mod Unique
