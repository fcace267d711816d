pub mod Counts
pub mod Driven
pub mod Lengths
pub mod Answers
