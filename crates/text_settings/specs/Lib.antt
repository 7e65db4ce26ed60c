pub mod Settings
