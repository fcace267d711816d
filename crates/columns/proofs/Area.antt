pub mod Columns
pub mod Puts
pub mod Tails
pub mod Lent
pub mod Frames
