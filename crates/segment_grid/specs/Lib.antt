pub mod Grid
pub mod Vp9
