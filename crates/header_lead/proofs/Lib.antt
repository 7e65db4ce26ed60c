pub mod Shots
pub mod Steps
pub mod Exact
