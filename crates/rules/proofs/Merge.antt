pub mod Rounds
pub mod Given
pub mod Merge
