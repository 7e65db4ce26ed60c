pub mod Records
pub mod Exact
