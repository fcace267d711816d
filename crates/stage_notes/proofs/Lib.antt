pub mod Taken
pub mod Same
pub mod Turns
pub mod Noting
pub mod Reading
