pub mod Call
pub mod Answers
