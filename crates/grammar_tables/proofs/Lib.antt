pub mod Limits
pub mod Laws
pub mod Header
