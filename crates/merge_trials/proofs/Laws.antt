pub mod Standing
pub mod Keys
pub mod Answers
pub mod Trials
