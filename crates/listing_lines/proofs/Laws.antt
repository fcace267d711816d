pub mod Laid
pub mod Decimal
pub mod Lines
pub mod Fits
