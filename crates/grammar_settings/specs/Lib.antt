pub mod Enums
pub mod Settings
