pub mod Cells
pub mod Lifts
pub mod Kinds
