pub mod Marks
pub mod Cells
pub mod Ending
