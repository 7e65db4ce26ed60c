pub mod Numbered
pub mod Decisions
