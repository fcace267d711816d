pub mod Lines
pub mod Told
pub mod Table
pub mod Calls
