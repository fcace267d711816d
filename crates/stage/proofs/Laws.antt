pub mod Midway
pub mod Lasting
pub mod Ended
pub mod Finish
pub mod Stage
