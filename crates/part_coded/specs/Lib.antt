pub mod Delta
pub mod Prob
