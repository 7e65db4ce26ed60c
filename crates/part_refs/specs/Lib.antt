pub mod Refs
pub mod Sources
