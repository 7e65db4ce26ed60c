pub mod Levels
pub mod Once
pub mod Vp9
