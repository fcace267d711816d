pub mod Fits
pub mod Sections
pub mod Answers
