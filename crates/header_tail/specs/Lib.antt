pub mod Settings
pub mod Closing
