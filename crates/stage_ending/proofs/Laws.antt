pub mod Close
pub mod Closed
pub mod Words
pub mod Writing
pub mod Ends
pub mod Lasted
pub mod Rest
pub mod Filled
