pub mod Syntax
pub mod Fault
pub mod Reader
pub mod Law
pub mod Many
