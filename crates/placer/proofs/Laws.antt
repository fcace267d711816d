pub mod Laying
pub mod Course
pub mod Next
pub mod Build
pub mod Outcome
pub mod Unique
pub mod Filled
pub mod Coding
