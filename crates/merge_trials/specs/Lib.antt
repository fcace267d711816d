pub mod Ranks
pub mod Trials
