pub mod Ranges
pub mod Casts
pub mod Vp9
