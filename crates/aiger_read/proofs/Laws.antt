pub mod Gates
pub mod Counts
pub mod Ends
pub mod Answers
