pub mod Sums
pub mod Refusing
