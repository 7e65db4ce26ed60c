pub mod Records
pub mod Flat
pub mod Filling
pub mod Exact
