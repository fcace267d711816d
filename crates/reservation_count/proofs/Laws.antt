pub mod Lists
pub mod Sums
pub mod Chains
pub mod Walks
pub mod Counts
