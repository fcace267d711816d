pub mod Cells
pub mod Loads
