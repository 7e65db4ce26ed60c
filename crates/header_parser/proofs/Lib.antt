pub mod Flat
pub mod Record
pub mod Outcomes
pub mod Parts
pub mod Whole
pub mod Theorems
