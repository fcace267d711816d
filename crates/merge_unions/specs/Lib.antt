pub mod Table
pub mod Names
pub mod Reserving
pub mod Waiting
pub mod Sizing
pub mod Unions
pub mod Cones
