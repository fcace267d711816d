pub mod Laid
pub mod Stages
