pub mod Bounds
pub mod Frame
pub mod Vp9
