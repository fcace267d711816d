pub mod Originals
