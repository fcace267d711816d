pub mod Runs
pub mod Stages
pub mod Parting
pub mod Idle
pub mod Seen
pub mod Examples
