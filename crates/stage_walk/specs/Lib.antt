pub mod Stands
pub mod Machine
pub mod Nexts
