pub mod Rights
pub mod Starts
