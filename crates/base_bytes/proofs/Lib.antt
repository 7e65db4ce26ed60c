pub mod Append
pub mod Rest
pub mod Little
