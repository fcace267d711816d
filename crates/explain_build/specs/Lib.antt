pub mod Six
pub mod Call
