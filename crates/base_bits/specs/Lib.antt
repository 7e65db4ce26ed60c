pub mod Bit
pub mod Refusal
pub mod Read
