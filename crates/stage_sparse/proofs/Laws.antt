pub mod Plain
pub mod Places
pub mod Runs
pub mod Slices
