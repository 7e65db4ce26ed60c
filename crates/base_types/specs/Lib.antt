pub mod Header
pub mod ReaderState
