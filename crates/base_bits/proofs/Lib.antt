pub mod Number
pub mod Gather
pub mod Stand
pub mod Begins
