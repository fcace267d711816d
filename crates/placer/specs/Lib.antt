pub mod Answers
pub mod Stages
pub mod Build
