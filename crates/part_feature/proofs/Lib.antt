pub mod Tables
pub mod Records
pub mod Exact
