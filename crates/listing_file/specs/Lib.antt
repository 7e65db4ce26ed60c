pub mod Chunk
pub mod Listing
pub mod Rows
