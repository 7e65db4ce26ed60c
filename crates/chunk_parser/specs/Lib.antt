pub mod Answer
pub mod Demand
