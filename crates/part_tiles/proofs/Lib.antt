pub mod Loops
pub mod Records
pub mod Exact
