pub mod Probs
pub mod Map
