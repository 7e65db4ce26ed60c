pub mod Lines
pub mod Whole
pub mod Sizes
pub mod Fits
pub mod Rows
