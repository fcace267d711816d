pub mod Room
pub mod Ends
pub mod Stages
pub mod Answers
