pub mod Same
pub mod Vp9
