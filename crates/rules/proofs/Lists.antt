pub mod Members
pub mod Lengths
pub mod Parts
