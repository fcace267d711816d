pub mod Over
pub mod Telling
