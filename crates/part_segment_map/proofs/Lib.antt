pub mod Records
pub mod Filling
pub mod Steps
pub mod Exact
