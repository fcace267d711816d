pub mod Bounds
pub mod Loop
pub mod Filling
