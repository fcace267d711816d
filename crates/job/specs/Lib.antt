pub mod Steps
pub mod Walk
pub mod Answers
