pub mod Filling
pub mod Records
pub mod Exact
