pub mod Reaching
pub mod Searching
pub mod Marking
