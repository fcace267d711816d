pub mod Joining
pub mod Placing
pub mod Outcome
pub mod Unique
