pub mod Order
pub mod Rising
pub mod Lifting
