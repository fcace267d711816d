pub mod Measuring
pub mod Parts
pub mod Building
