pub mod Entries
pub mod Segmentation
pub mod Once
pub mod Vp9
