pub mod Kinds
pub mod Bits
pub mod Fields
pub mod Pins
pub mod Records
pub mod Turns
pub mod Files
