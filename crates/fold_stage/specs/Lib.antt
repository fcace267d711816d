pub mod Bits
pub mod Loads
