pub mod Reader
pub mod Yields
