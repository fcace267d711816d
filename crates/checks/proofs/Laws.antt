pub mod Gates
pub mod Turns
pub mod Refusing
pub mod Passed
pub mod Rising
