pub mod Close
pub mod Words
pub mod Last
pub mod Rest
