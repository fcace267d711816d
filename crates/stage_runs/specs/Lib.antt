pub mod Classes
pub mod Laid
pub mod Puts
pub mod Ran
