pub mod Needs
pub mod Lower
pub mod Lacks
