pub mod Reading
pub mod Walks
