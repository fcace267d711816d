pub mod Shape
pub mod Marks
pub mod Named
pub mod Lines
pub mod File
pub mod Answers
