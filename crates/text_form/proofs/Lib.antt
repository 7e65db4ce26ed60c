pub mod Cases
pub mod Formed
pub mod Fits
pub mod Marks
pub mod Example
