pub mod Sizes
pub mod Totals
pub mod Accepted
pub mod Checked
pub mod Plain
pub mod Unique
