pub mod Quant
pub mod Vp9
