pub mod Fields
pub mod Area
pub mod Lists
