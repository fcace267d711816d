pub mod Steps
pub mod Forgets
