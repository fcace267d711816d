pub mod Forms
pub mod Sheets
pub mod Lifting
pub mod Calls
pub mod Opened
pub mod Kinds
