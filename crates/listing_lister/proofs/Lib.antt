pub mod Lines
pub mod Room
pub mod Event
pub mod Few
pub mod Fits
pub mod Exact
pub mod Whole
