pub mod File
pub mod Record
pub mod Records
pub mod Table
pub mod Spelling
pub mod Recording
