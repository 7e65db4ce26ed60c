pub mod Grids
pub mod Vp9
