pub mod Chains
pub mod Walks
pub mod Counts
