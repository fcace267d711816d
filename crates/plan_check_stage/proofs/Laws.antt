pub mod Marks
pub mod Right
pub mod Ending
