pub mod Contexts
pub mod Gates
pub mod Ranked
