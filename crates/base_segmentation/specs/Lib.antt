pub mod SegmentationParams
pub mod Vp9
