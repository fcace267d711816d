pub mod Cursor
pub mod Rows
