pub mod Fuel
pub mod Moves
pub mod Area
pub mod Loops
