pub mod Fits
pub mod Sections
