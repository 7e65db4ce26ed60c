pub mod Signed
pub mod Records
pub mod Steps
pub mod Run
pub mod Exact
