pub mod Halves
pub mod Frame
pub mod Vp9
