pub mod Place
pub mod Demand
