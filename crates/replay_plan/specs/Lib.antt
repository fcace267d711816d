pub mod Tape
pub mod Runs
