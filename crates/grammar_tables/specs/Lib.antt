pub mod Tables
pub mod Header
pub mod Reading
pub mod Limits
