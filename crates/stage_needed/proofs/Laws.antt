pub mod Asking
pub mod Collecting
pub mod Noting
