pub mod Sizes
pub mod Finish
pub mod Built
pub mod Checked
pub mod Unique
