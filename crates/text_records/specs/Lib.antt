pub mod Header
pub mod State
pub mod Segments
