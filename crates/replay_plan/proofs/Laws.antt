pub mod Bytes
pub mod Tape
pub mod Runs
