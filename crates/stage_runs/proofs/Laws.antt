pub mod Plain
pub mod Classes
pub mod Laid
pub mod Puts
pub mod Written
pub mod Ran
pub mod Half
