pub mod Vp9
