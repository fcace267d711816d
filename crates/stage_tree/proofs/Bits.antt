pub mod Cells
pub mod Graphs
pub mod Fills
pub mod Empties
pub mod Places
pub mod Purges
pub mod Standing
pub mod Totals
