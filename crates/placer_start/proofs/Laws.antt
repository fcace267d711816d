pub mod Given
pub mod Waiting
pub mod Chains
pub mod Codes
pub mod Counts
pub mod Reserving
pub mod Opening
pub mod First
