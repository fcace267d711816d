pub mod Steps
pub mod Stages
pub mod Either
pub mod Walk
pub mod Areas
pub mod Answers
