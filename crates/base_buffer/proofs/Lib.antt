pub mod Copy
pub mod Exact
