pub mod Clamp
pub mod Vp9
