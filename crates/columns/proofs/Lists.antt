pub mod Swap
pub mod Entries
pub mod Marks
pub mod Places
pub mod Clears
