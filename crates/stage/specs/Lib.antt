pub mod Finish
pub mod Stage
pub mod Stopped
