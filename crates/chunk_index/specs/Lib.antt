pub mod Layout
pub mod Split
pub mod Table
pub mod Demand
pub mod Spelling
