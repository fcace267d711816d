pub mod Folds
pub mod Whole
pub mod Bits
pub mod Flat
