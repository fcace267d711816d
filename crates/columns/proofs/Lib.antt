pub mod Area
pub mod Lists
