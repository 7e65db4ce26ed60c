pub mod Filter
pub mod Motion
