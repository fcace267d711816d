pub mod Steady
pub mod Pick
pub mod Buckets
pub mod Lean
pub mod Turns
