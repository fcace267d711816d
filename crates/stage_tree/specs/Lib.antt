pub mod Counts
pub mod Bits
pub mod Search
