pub mod Owned
pub mod Orders
pub mod Gathers
pub mod Tables
pub mod Lists
pub mod Along
pub mod Whole
