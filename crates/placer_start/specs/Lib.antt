pub mod Given
pub mod Waiting
pub mod Reservation
pub mod Opening
