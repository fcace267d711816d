pub mod Deepest
pub mod Walks
pub mod Aside
pub mod Outcome
pub mod Unique
