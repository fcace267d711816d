pub mod Cursor
pub mod Quick
pub mod Header
pub mod Rows
