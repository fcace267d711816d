pub mod Round
pub mod Into
pub mod Slots
