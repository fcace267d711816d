pub mod Fields
pub mod Putting
pub mod Files
