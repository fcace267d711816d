pub mod Slots
pub mod Moves
pub mod Sorts
pub mod Stores
pub mod Rounds
