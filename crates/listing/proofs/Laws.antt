pub mod Written
pub mod Answered
pub mod Built
pub mod Unique
