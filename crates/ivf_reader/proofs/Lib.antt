pub mod Places
pub mod Yields
