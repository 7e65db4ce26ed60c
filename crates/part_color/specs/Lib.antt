pub mod Color
pub mod Intra
