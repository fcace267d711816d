pub mod Values
pub mod Walk
