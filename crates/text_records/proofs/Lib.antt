pub mod Segments
pub mod Fits
pub mod Example
