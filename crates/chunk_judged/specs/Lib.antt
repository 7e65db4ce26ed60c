pub mod Frames
pub mod Answer
pub mod Demand
